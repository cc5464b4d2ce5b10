-- The language JSON: a document is one value, written in words with blank bytes around them.
use Rattle.std.specs.Prelude.{◌≡◌, ℕ, List, [], ◌∷◌}
use Rattle.grammar.specs.Meaning.{Word}
use Rattle.rules.specs.Language.{Written}
use Rattle.json_language.specs.Words.{Sort, begin_array, end_array, begin_object, end_object, value_separator, name_separator, string, number, literal, first_sort, Spelled, kind_of, blank, delimits}

-- values; the values of an array; the members of an object, each a name, which is a string, and its value
mutual
  pub data Value : Type 0 where
    a_string a_number a_literal : Value
    array : Items → Value
    object : Members → Value

  pub data Items : Type 0 where
    no_items : Items
    item : Value → Items → Items

  pub data Members : Type 0 where
    no_members : Members
    member : Value → Members → Members

-- The sorts of a value's words, and then these; `first` begins behind the opening bracket, `later` behind a value.
abbrev mutual
  pub value : Value → List Sort → List Sort
  value a_string ks = string ∷ ks
  value a_number ks = number ∷ ks
  value a_literal ks = literal ∷ ks
  value (array vs) ks = begin_array ∷ first_items vs ks
  value (object ms) ks = begin_object ∷ first_members ms ks

  pub first_items : Items → List Sort → List Sort
  first_items no_items ks = end_array ∷ ks
  first_items (item v vs) ks = value v (later_items vs ks)

  pub later_items : Items → List Sort → List Sort
  later_items no_items ks = end_array ∷ ks
  later_items (item v vs) ks = value_separator ∷ value v (later_items vs ks)

  pub first_members : Members → List Sort → List Sort
  first_members no_members ks = end_object ∷ ks
  first_members (member v ms) ks = string ∷ (name_separator ∷ value v (later_members ms ks))

  pub later_members : Members → List Sort → List Sort
  later_members no_members ks = end_object ∷ ks
  later_members (member v ms) ks = value_separator ∷ (string ∷ (name_separator ∷ value v (later_members ms ks)))

-- the sorts of words
abbrev pub sorts : List Word → List Sort
sorts [] = []
sorts (w ∷ ws) = first_sort w ∷ sorts ws

-- the words are those of a value
abbrev pub Sentence : List Word → Type 0
Sentence ws = (v : Value) × (sorts ws ≡ value v [])

-- the bytes are these words, and the words are those of a value
abbrev pub TextOf : List Word → List ℕ → Type 0
TextOf ws bs = Written blank kind_of delimits Spelled ws bs × Sentence ws

-- the bytes are a document
abbrev pub Document : List ℕ → Type 0
Document bs = (ws : List Word) × TextOf ws bs
