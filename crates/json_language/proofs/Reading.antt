-- The rules of JSON read JSON and nothing else.
use Rattle.std.proofs.Common.{sym, refl}
use Rattle.rules.specs.Language.{blank_of, SpelledBy}
use Rattle.rules.proofs.Writing.{written_alike}
use Rattle.json_language.specs.Words.{Spelled, kind_of, blank, delimits}
use Rattle.json_language.specs.Rules.{json_rules}
use Rattle.json_language.specs.Laws.{RulesReadJson}
use Rattle.json_language.proofs.Bytes.{blank_class}
use Rattle.json_language.proofs.Spelling.{spelling}
use Rattle.json_language.proofs.Sentences.{sentence_complete, sentence_sound}

pub rules_read_json : RulesReadJson
rules_read_json ws bs = (
  λ t. (written_alike blank (blank_of json_rules) kind_of kind_of delimits delimits Spelled (SpelledBy json_rules) (λ b. sym (blank_class b)) (λ b. refl) (λ b. refl) (λ w. (spelling w).1) t.0, sentence_complete ws t.1),
  λ t. (written_alike (blank_of json_rules) blank kind_of kind_of delimits delimits (SpelledBy json_rules) Spelled blank_class (λ b. refl) (λ b. refl) (λ w. (spelling w).0) t.0, sentence_sound ws t.1),
)
