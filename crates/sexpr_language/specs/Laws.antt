-- The rules read the language.
use Rattle.std.specs.Prelude.{ℕ, List}
use Rattle.grammar.specs.Meaning.{Word}
use Rattle.rules.specs.Language.{WrittenBy, SentenceBy}
use Rattle.sexpr_language.specs.Language.{TextOf}
use Rattle.sexpr_language.specs.Rules.{sexpr_rules}

-- bytes are a text of words in the language exactly when they are one by the rules
abbrev pub RulesReadSexprs : Type 0
RulesReadSexprs = (ws : List Word) (bs : List ℕ)
    → (TextOf ws bs → WrittenBy sexpr_rules ws bs × SentenceBy sexpr_rules ws)
    × (WrittenBy sexpr_rules ws bs × SentenceBy sexpr_rules ws → TextOf ws bs)
