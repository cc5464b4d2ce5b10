-- The rules are lawful.
use Rattle.std.proofs.Common.{◌≡◌, true, ◌∷◌, None, refl, subst, inl, arith}
use Rattle.rules.specs.Lawful.{Lawful, fits_kind}
use Rattle.sexpr_language.specs.Classes.{class_of}
use Rattle.sexpr_language.specs.Rules.{class_kind, sexpr_rules}
use Rattle.sexpr_language.proofs.Words.{BeginsSo, begins_so, TurnsSo, turns_so, begun_so, whole_so, delimited, no_newline_inside, finish}
use Rattle.sexpr_language.proofs.Places.{wherever, reached_so, place_finish, atom_apart, NotClosing, not_closing, lead_ranged, stays_within, class_shows}

pub sexpr_rules_lawful : Lawful sexpr_rules
sexpr_rules_lawful = record {
  blank_is_blank = refl;
  newline_is_blank = refl;
  blank_delimits = refl;
  newline_delimits = refl;
  no_newline = no_newline_inside;
  sole_not_loose = λ b e. subst (BeginsSo (class_of b)) e (begins_so (class_of b));
  closed_not_loose = λ i b c w x e. subst (TurnsSo (class_of b)) e (turns_so i (b ∷ w) (class_of b) (class_of c) (begun_so x));
  whole_is_loose = λ i b w x h. whole_so i (b ∷ w) (class_of b) (begun_so x) h;
  delimiter_ends = λ i w b. delimited i w (class_of b);
  word_closing = λ i w x. finish i w (begun_so x);
  place_closing = λ p x. place_finish p (reached_so x);
  apart = λ p b c m n h e _. atom_apart p b c m h e;
  kind_shows = λ e k b. wherever (λ o. fits_kind (class_kind (class_of b)) o ≡ true) refl e k (class_of b) (class_shows k (class_of b));
  started_stays = stays_within;
  closes_open = λ e b h. subst NotClosing h (wherever NotClosing tt e None _ (not_closing (class_of b)));
  leads_near = λ e b. lead_ranged e (class_of b);
  block_near = omega arith;
  text_is_word = λ b w. inl refl;
}
