-- tables of first places, where a row is put last or in the place of another
use Rattle.std.proofs.Common.{◌≡◌, ℕ, List, [], ◌∷◌, ◌++◌, length, get_or, set, sym, ap, ◌∙◌, subst, Bool, true, false, not, Some, None, Option, arith}
use Rattle.std.specs.Prelude.{if◌then◌else◌, Vec, is_some}
use Rattle.std.specs.List.{position}
use Rattle.std.specs.Map.{lookup, KeepsOthers}
use Rattle.std.specs.HashMap.{HashMap, UpdatesBy}
use Rattle.std.specs.Cmp.Lexicographic.{pointwise}
use Rattle.std.proofs.lemmas.List.{length-append, length-set}
use Rattle.std.proofs.lemmas.List.Folds.{position_or_len_push, position_or_len-set}
use Rattle.std.proofs.lemmas.List.Sums.{prefix_len-le-length}
use Rattle.std.proofs.lemmas.Bool.Decides.{nat_tests}
use Rattle.sd_rows.specs.Rows.{Part, Parts}
use Rattle.sd_linear.specs.declared.list.DerivedRow.{DerivedRow}
use Rattle.sd_linear.specs.Elimination.{same_parts}
use Rattle.sd_linear.specs.DerivedRows.{default_row}
use Rattle.sd_linear.specs.FirstPlaces.{same_part, place_in, HasFirstPlaces}
use Rattle.sd_linear.proofs.Lists.{same_parts-is, fits_in}
use Rattle.sd_linear.proofs.Points.{same_parts-true}

abbrev place_of : Parts → List DerivedRow → Option ℕ
place_of ps rows = position (λ h. same_parts ps h.row.parts) rows

position-push : {X : Type 0} (p : X → Bool) (xs : List X) (y : X) → position p (xs ++ y ∷ []) ≡ (if is_some (position p xs) then position p xs else if p y then Some (length xs) else None)
position-push p xs y = grind (arith, nat_tests, position_or_len_push p xs y, length-append xs (y ∷ []), prefix_len-le-length (λ x. not (p x)) xs)

equal : (a b : Parts) → pointwise same_part a b ≡ true → a ≡ b
equal a b e = same_parts-true a b (sym (same_parts-is a b) ∙ e)

pub found-set : {Y S : Type 0} (places : HashMap (Vec Part Y) ℕ S) (rows : List DerivedRow) (i : ℕ) (h : DerivedRow) → fits_in h (get_or rows i default_row) ≡ true → HasFirstPlaces places rows → HasFirstPlaces places (set rows i h)
found-set places rows i h e f = λ ps.
    grind (arith, nat_tests, f ps, length-set rows i h, position_or_len-set (λ g. same_parts ps g.row.parts) rows i h default_row (ap (same_parts ps) (same_parts-true _ _ e)))

-- the first places stay where there is a row with the left side of the last
pub found-again : {Y S : Type 0} (places : HashMap (Vec Part Y) ℕ S) (rows : List DerivedRow) (h : DerivedRow) → is_some (place_of h.row.parts rows) ≡ true → HasFirstPlaces places rows → HasFirstPlaces places (rows ++ h ∷ [])
found-again places rows h e f = λ ps.
    grind (
      arith,
      f ps,
      position-push (λ g. same_parts ps g.row.parts) rows h,
      λ (t : same_parts ps h.row.parts ≡ true). subst (λ l. is_some (place_of l rows) ≡ true) (sym (same_parts-true ps h.row.parts t)) e,
    )

module _ {Y : Type 0} where
  abbrev pub same_left : Vec Part Y → Vec Part Y → Bool
  same_left x y = pointwise same_part x.items y.items

  kept : (old new : List (Vec Part Y × ℕ)) (k : Vec Part Y) → KeepsOthers same_left (same_left k) old new → (ps : Parts) → same_parts ps k.items ≡ false
      → lookup (λ l. pointwise same_part ps l.items) new ≡ lookup (λ l. pointwise same_part ps l.items) old
  unfolding KeepsOthers
  kept old new k u ps n = u (λ l. pointwise same_part ps l.items) (λ x y e. ap (λ l. pointwise same_part l y.items) (equal ps x.items e))
      (λ x e. ap (pointwise same_part ps) (sym (equal k.items x.items e)) ∙ same_parts-is ps k.items ∙ n)

  -- a new left side has the place after all rows
  pub found-new : {S : Type 0} (old new : HashMap (Vec Part Y) ℕ S) (rows : List DerivedRow) (h : DerivedRow) (k : Vec Part Y) → k.items ≡ h.row.parts → place_of h.row.parts rows ≡ None
      → UpdatesBy same_left (same_left k) old new (Some (length rows)) → HasFirstPlaces old rows → HasFirstPlaces new (rows ++ h ∷ [])
  found-new old new rows h k e n u f = λ ps.
      grind (
        arith,
        f ps,
        position-push (λ g. same_parts ps g.row.parts) rows h,
        λ (t : same_parts ps h.row.parts ≡ true). here ps t,
        λ (t : same_parts ps h.row.parts ≡ false). kept old.entries new.entries k u.3 ps (ap (same_parts ps) e ∙ t),
      )
    where
      here : (ps : Parts) → same_parts ps h.row.parts ≡ true → (place_in new ps ≡ Some (length rows)) × (place_of ps rows ≡ None)
      here ps t =
          let q : h.row.parts ≡ ps = sym (same_parts-true ps h.row.parts t) in
          (subst (λ l. place_in new l ≡ Some (length rows)) (e ∙ q) u.1, subst (λ l. place_of l rows ≡ None) q n)
