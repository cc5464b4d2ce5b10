-- The rules read the language.
use Rattle.std.proofs.Common.{ℕ, List, [], sym, ap, ◌∙◌}
use Rattle.grammar.specs.Meaning.{Word}
use Rattle.rules.specs.Language.{Written, WrittenBy, SentenceBy, blank_of, SpelledBy}
use Rattle.rules.specs.Lawful.{AllSpelled}
use Rattle.sexpr_language.specs.Language.{blank, delimits, kind_of, Spelled, kinds, Sentence}
use Rattle.sexpr_language.specs.Rules.{sexpr_rules}
use Rattle.sexpr_language.specs.Laws.{RulesReadSexprs}
use Rattle.sexpr_language.proofs.Bytes.{blank_by_class, kind_by_class, delimits_by_class}
use Rattle.sexpr_language.proofs.Spelling.{spelled_decides}
use Rattle.rules.proofs.Writing.{written_alike, all_spelled}
use Rattle.sexpr_language.proofs.Trees.{exprs_balance, balances, balanced_fills, parses_balanced}

-- a text in the language is one by the rules, and the other way round
pub by_rules : {ws : List Word} {bs : List ℕ} → Written blank kind_of delimits Spelled ws bs → WrittenBy sexpr_rules ws bs
by_rules = written_alike blank (blank_of sexpr_rules) kind_of sexpr_rules.kind delimits sexpr_rules.delimits Spelled (SpelledBy sexpr_rules)
    (λ b. sym (blank_by_class b)) (λ b. sym (kind_by_class b)) (λ b. sym (delimits_by_class b)) (λ w. (spelled_decides w).1)

pub by_language : {ws : List Word} {bs : List ℕ} → WrittenBy sexpr_rules ws bs → Written blank kind_of delimits Spelled ws bs
by_language = written_alike (blank_of sexpr_rules) blank sexpr_rules.kind kind_of sexpr_rules.delimits delimits (SpelledBy sexpr_rules) Spelled
    blank_by_class kind_by_class delimits_by_class (λ w. (spelled_decides w).0)

-- spelled words are those of a list of expressions exactly when they parse
pub sentence_parses : (ws : List Word) → AllSpelled sexpr_rules ws → Sentence ws → SentenceBy sexpr_rules ws
sentence_parses ws g s = parses_balanced ws [] g ∙ (ap (balances []) s.1 ∙ exprs_balance s.0 [] [])

pub parsed_sentence : (ws : List Word) → AllSpelled sexpr_rules ws → SentenceBy sexpr_rules ws → Sentence ws
parsed_sentence ws g h = balanced_fills (kinds ws) [] (sym (parses_balanced ws [] g) ∙ h)

pub rules_read_sexprs : RulesReadSexprs
rules_read_sexprs ws bs = (
  λ t. let x = by_rules t.0 in (x, sentence_parses ws (all_spelled sexpr_rules x) t.1),
  λ t. (by_language t.0, parsed_sentence ws (all_spelled sexpr_rules t.0) t.1),
)
