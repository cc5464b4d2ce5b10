-- The two languages are read.
use Rattle.languages.specs.Reads.{Reads}
use Rattle.json_language.specs.Words.{blank as json_blank, kind_of as json_kind, delimits as json_delimits, Spelled as JsonSpelled}
use Rattle.json_language.specs.Language.{Sentence as JsonSentence}
use Rattle.json_language.specs.Rules.{json_rules}
use Rattle.sexpr_language.specs.Language.{blank as sexpr_blank, kind_of as sexpr_kind, delimits as sexpr_delimits, Spelled as SexprSpelled, Sentence as SexprSentence}
use Rattle.sexpr_language.specs.Rules.{sexpr_rules}

-- JSON by RFC 8259
abbrev pub JsonIsRead : Type 0
JsonIsRead = Reads json_rules json_blank json_kind json_delimits JsonSpelled JsonSentence

-- S-expressions
abbrev pub SexprsAreRead : Type 0
SexprsAreRead = Reads sexpr_rules sexpr_blank sexpr_kind sexpr_delimits SexprSpelled SexprSentence
