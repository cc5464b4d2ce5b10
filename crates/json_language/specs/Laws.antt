-- What the rules of JSON promise.
use Rattle.std.specs.Prelude.{ℕ, List}
use Rattle.grammar.specs.Meaning.{Word}
use Rattle.rules.specs.Language.{WrittenBy, SentenceBy}
use Rattle.json_language.specs.Language.{TextOf}
use Rattle.json_language.specs.Rules.{json_rules}

-- by the rules, the bytes are these words, and the words may stand in this order
abbrev pub ReadByRules : List Word → List ℕ → Type 0
ReadByRules ws bs = WrittenBy json_rules ws bs × SentenceBy json_rules ws

-- the bytes are words of JSON in an order that JSON has exactly where the rules say so
abbrev pub RulesReadJson : Type 0
RulesReadJson = (ws : List Word) (bs : List ℕ) → (TextOf ws bs → ReadByRules ws bs) × (ReadByRules ws bs → TextOf ws bs)
