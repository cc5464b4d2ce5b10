-- Which token a program's token is.
use Rattle.std.specs.Prelude.{ℕ, List}
use Rattle.std.specs.Borrow.{Bor}
use Rattle.layout.specs.declared.token.Token.{Token as Handed}
use Rattle.layout.specs.declared.token.Token.TheVariants.{Text as HandedText, Break as HandedBreak, Opening as HandedOpening, Ending as HandedEnding}
use Rattle.layout.specs.Tokens.{Token, Text, Break, Opening, Ending}

abbrev pub view : Handed (Bor (List ℕ)) → Token
view (HandedText bytes) = Text bytes.now
view (HandedBreak b) = Break b.blanks b.offset
view (HandedOpening o) = Opening o.offset o.fold o.anchor
view HandedEnding = Ending
