-- Lists of terms that grow by one at each turn of a loop.
use Rattle.std.proofs.Common.{◌≡◌, ℕ, zero, suc, ◌+◌, ◌<◌, List, [], ◌∷◌, ◌++◌, length, drop, get_or, refl, sym, ap, subst, ◌∙◌, arith}
use Rattle.std.specs.Prelude.{All, map, min}
use Rattle.std.proofs.lemmas.List.{map-append, append_assoc}
use Rattle.std.proofs.lemmas.List.Elements.{All-push}
use Rattle.sd_base.specs.declared.Var.{Var}
use Rattle.sd_core.specs.declared.Spot.{Spot}
use Rattle.sd_core.specs.declared.Spot.TheVariants.{Slot}
use Rattle.sd_core.specs.Store.{Store}
use Rattle.sd_core.specs.Run.{slots_from}
use Rattle.sd_term.specs.Tree.{Tree}
use Rattle.sd_term.specs.Bank.{tree_at}
use Rattle.sd_term.specs.Build.{Extends}
use Rattle.sd_vcgen.specs.Body as spec
use Rattle.sd_vcgen.specs.Numbers.{DenoteAll}
use Rattle.sd_vcgen.proofs.Numbers.{all_later, trees_later}

pub drop_split : {A : Type 0} (xs : List A) (i : ℕ) (x d : A) → i < length xs → x ≡ get_or xs i d → drop i xs ≡ x ∷ drop (i + 1) xs
drop_split [] i x d lt e = absurd (omega (arith, lt))
drop_split (y ∷ xs) zero x d lt e = ap (λ z. z ∷ xs) (sym e)
drop_split (y ∷ xs) (suc i) x d lt e =
    let more : suc (i + 1) ≡ suc i + 1 = omega arith in
    drop_split xs i x d (omega (arith, lt)) e ∙ ap (λ (k : ℕ). x ∷ drop k (y ∷ xs)) more

-- one more term
pub more_within : (a b : List Tree) (ids more : List ℕ) (id : ℕ) → All (λ i. i < length a) ids → Extends a b → more ≡ ids ++ id ∷ [] → id < length b → DenoteAll b more (map (tree_at b) more)
more_within a b ids more id w h e lt = record {
  within = subst (All (λ i. i < length b)) (sym e) (All-push (λ i. i < length b) ids id (all_later a b ids h w) lt);
  trees = refl;
}

pub more_trees : (a b : List Tree) (ids more : List ℕ) (id : ℕ) (t : Tree) (rest left whole : List Tree) → All (λ i. i < length a) ids → Extends a b → more ≡ ids ++ id ∷ [] → tree_at b id ≡ t → left ≡ t ∷ rest → map (tree_at a) ids ++ left ≡ whole → map (tree_at b) more ++ rest ≡ whole
more_trees a b ids more id t rest left whole w h e is split so =
    ap (λ l. map (tree_at b) l ++ rest) e
    ∙ ap (λ l. l ++ rest) (map-append (tree_at b) ids (id ∷ []))
    ∙ append_assoc (map (tree_at b) ids) (tree_at b id ∷ []) rest
    ∙ (λ i. trees_later a b ids h w i ++ is i ∷ rest)
    ∙ ap (λ l. map (tree_at a) ids ++ l) (sym split)
    ∙ so

-- the slots of the out-parameters
pub slots_split : (k i : ℕ) (vars : List Var) → i < length vars → slots_from (k + i) (drop i vars) ≡ Slot (k + i) ∷ slots_from (k + (i + 1)) (drop (i + 1) vars)
slots_split k i [] lt = absurd (omega (arith, lt))
slots_split k i (v ∷ vars) lt =
    let more : suc (k + i) ≡ k + (i + 1) = omega arith in
    ap (slots_from (k + i)) (drop_split (v ∷ vars) i (get_or (v ∷ vars) i v) v lt refl)
    ∙ ap (λ (j : ℕ). Slot (k + i) ∷ slots_from j (drop (i + 1) (v ∷ vars))) more

-- all pairs of targets and new terms have had their turn
pub assign_done : (f : ℕ → Tree) (g : Tree) (st : Store Tree) (ps : List Spot) (ids : List ℕ) (k : ℕ) → k ≡ min (length ps) (length ids) → spec.assign g st (drop k ps) (map f (drop k ids)) ≡ st
assign_done f g st [] ids zero e = refl
assign_done f g st [] ids (suc k) e = refl
assign_done f g st (p ∷ ps) [] zero e = refl
assign_done f g st (p ∷ ps) [] (suc k) e = absurd (omega (arith, e))
assign_done f g st (p ∷ ps) (x ∷ ids) zero e = absurd (omega (arith, e))
assign_done f g st (p ∷ ps) (x ∷ ids) (suc k) e = assign_done f g st ps ids k (omega (arith, e))
