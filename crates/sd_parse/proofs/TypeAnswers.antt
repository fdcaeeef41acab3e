-- What the reader of types answers.
use Rattle.std.proofs.Common.{◌≡◌, ℕ, zero, suc, ◌≤◌, [], ◌∷◌, refl, arith}
use Rattle.sd_base.specs.declared.Sort.{Sort}
use Rattle.sd_base.specs.declared.Sort.TheVariants as sort
use Rattle.sd_lex.specs.declared.Token.{Token}
use Rattle.sd_parse.specs.declared.class.TokenClass.{TokenClass}
use Rattle.sd_parse.specs.declared.class.TokenClass.TheVariants as s
use Rattle.sd_parse.specs.Grammar.{Tokens, Is}
use Rattle.sd_parse.specs.Types as ty
use Rattle.sd_parse.specs.Types.{TypeText}
use Rattle.sd_parse.specs.Reading.{Got, Reader, and_then, ahead, class_of, skip, want}
use Rattle.sd_parse.specs.ReadingTypes.{map_type, type_by, type_layer, type_of}
use Rattle.sd_parse.proofs.Spelling.{Spelled, spelled}
use Rattle.sd_parse.proofs.Algebra.{Begins, Answers, Rule, into, fails, seq, done, want_rule, name_rule, after, deeper_answers, wide}
use Rattle.sd_parse.proofs.Rows.{Low}
use Rattle.sd_parse.proofs.RowAnswers.{low_wide}
use Rattle.sd_parse.proofs.TypeLaws.{to_int, to_bool, to_named, to_map}

begins_type_text : (d : ℕ) → 1 ≤ d → Begins (Low TypeText d) []
begins_type_text d pos = record { more = (spelled s.Int refl).token ∷ []; value = sort.Int; spelt = record { height = 1; spelt = ty.int (spelled s.Int refl).is; low = pos } }

module _ (d : ℕ) (inner : Reader Sort) (law : 1 ≤ d → Rule (Low TypeText d) (Low TypeText (wide d)) inner) where
  map_begins : (t : Token) → Is s.OpenBracket t → Begins (Low TypeText (wide (suc d))) (t ∷ [])
  map_begins t i = record { more = (spelled s.Int refl).token ∷ (spelled s.CloseBracket refl).token ∷ (spelled s.Int refl).token ∷ []; value = sort.Map sort.Int sort.Int; spelt = record { height = 2; spelt = ty.map i (ty.int (spelled s.Int refl).is) (spelled s.CloseBracket refl).is (ty.int (spelled s.Int refl).is); low = omega arith } }

  map_answers : (ts : Tokens) → class_of (ahead ts) ≡ s.OpenBracket → Answers (Low TypeText (suc d)) (Low TypeText (wide (suc d))) ts (map_type d inner ts)
  unfolding map_type
  map_answers ts e = deeper_answers s.OpenBracket (spelled s.OpenBracket refl) d (λ ts. and_then (skip ts) (λ _ ts. and_then (inner ts) (λ a ts. and_then (want s.CloseBracket ts) (λ _ ts. and_then (inner ts) (λ b ts. Got (sort.Map a b) ts))))) ts e
      (begins_type_text (suc d) (omega arith)) map_begins
      (λ pos. into (to_map d) (to_map (wide d)) (after s.OpenBracket (spelled s.OpenBracket refl) ts e (λ _. seq (law pos) (λ a. seq (want_rule s.CloseBracket (spelled s.CloseBracket refl)) (λ _. seq (law pos) (λ b. done (sort.Map a b)))))))

  layer_answers : (ts : Tokens) → Answers (Low TypeText (suc d)) (Low TypeText (wide (suc d))) ts (type_layer d inner ts)
  unfolding type_layer
  layer_answers ts = by_class (class_of (ahead ts)) refl
    where
      by_class : (x : TokenClass) → class_of (ahead ts) ≡ x → Answers (Low TypeText (suc d)) (Low TypeText (wide (suc d))) ts (type_by d inner x ts)
      by_class s.Int e = into (to_int d) (to_int (wide d)) (after s.Int (spelled s.Int refl) ts e (λ _. done sort.Int))
      by_class s.Bool e = into (to_bool d) (to_bool (wide d)) (after s.Bool (spelled s.Bool refl) ts e (λ _. done sort.Bool))
      by_class s.Name e = into (to_named d) (to_named (wide d)) ((seq name_rule (λ y. done (sort.Named y.0))).answers ts)
      by_class s.OpenBracket e = map_answers ts e
      by_class _ e = fails (begins_type_text (suc d) (omega arith))

type_answers : (d : ℕ) (ts : Tokens) → 1 ≤ d → Answers (Low TypeText d) (Low TypeText (wide d)) ts (type_of d ts)
unfolding type_of
type_answers zero ts pos = absurd (omega arith)
type_answers (suc d) ts pos = layer_answers d (type_of d) (λ pos. record { least = begins_type_text d pos; up = low_wide TypeText d; answers = λ ts. type_answers d ts pos }) ts

-- The reader's answers, at each height of 1 at least.
pub type_rule : (d : ℕ) → 1 ≤ d → Rule (Low TypeText d) (Low TypeText (wide d)) (type_of d)
type_rule d pos = record { least = begins_type_text d pos; up = low_wide TypeText d; answers = λ ts. type_answers d ts pos }
