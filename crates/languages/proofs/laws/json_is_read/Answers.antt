use Rattle.std.proofs.Common.{sym, refl}
use Rattle.json_language.specs.Words.{blank, kind_of, delimits, Spelled}
use Rattle.json_language.specs.Language.{Sentence}
use Rattle.json_language.specs.Rules.{json_rules}
use Rattle.json_language.proofs.Bytes.{blank_class}
use Rattle.json_language.proofs.Spelling.{spelling}
use Rattle.json_language.proofs.Sentences.{sentence_complete, sentence_sound}
use Rattle.json_language.proofs.Lawful.{json_lawful}
use Rattle.languages.proofs.Joined.{joined}
use Rattle.languages.proofs.laws.json_is_read.Goals as goal

pub returns : goal.returns
returns c = joined json_rules json_lawful blank kind_of delimits Spelled Sentence (λ b. sym (blank_class b)) (λ b. refl) (λ b. refl) (λ w. (spelling w).1) (λ w. (spelling w).0) (λ ws good. sentence_complete ws) (λ ws good. sentence_sound ws)
