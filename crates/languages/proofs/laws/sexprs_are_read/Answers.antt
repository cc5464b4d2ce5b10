use Rattle.std.proofs.Common.{sym}
use Rattle.sexpr_language.specs.Language.{blank, kind_of, delimits, Spelled, Sentence}
use Rattle.sexpr_language.specs.Rules.{sexpr_rules}
use Rattle.sexpr_language.proofs.Bytes.{blank_by_class, kind_by_class, delimits_by_class}
use Rattle.sexpr_language.proofs.Spelling.{spelled_decides}
use Rattle.sexpr_language.proofs.Reading.{sentence_parses, parsed_sentence}
use Rattle.sexpr_language.proofs.Lawfulness.{sexpr_rules_lawful}
use Rattle.languages.proofs.Joined.{joined}
use Rattle.languages.proofs.laws.sexprs_are_read.Goals as goal

pub returns : goal.returns
returns c = joined sexpr_rules sexpr_rules_lawful blank kind_of delimits Spelled Sentence (λ b. sym (blank_by_class b)) (λ b. sym (kind_by_class b)) (λ b. sym (delimits_by_class b)) (λ w. (spelled_decides w).1) (λ w. (spelled_decides w).0) sentence_parses parsed_sentence
