-- What a settled table tells of a candidate that is not live.
use Rattle.std.proofs.Common.{◌≡◌, ◌∙◌, sym, ap, refl, subst, ℕ, suc, zero, ◌<◌, Bool, true, false, List, [], ◌∷◌, ◌++◌, length, set, inl, inr, arith}
use Rattle.std.specs.Prelude.{Some, ◌⊎◌, replicate, slice_get, Contains}
use Rattle.std.proofs.lemmas.List.{get_or-replicate}
use Rattle.std.proofs.lemmas.Option.{same_Some, slice_get-get_or}
use Rattle.sd_base.proofs.Lists.{contains-head, contains-tail}
use Rattle.std.proofs.Math.ListN.{length-replicate}
use Rattle.sd_term.specs.Tree.{Tree}
use Rattle.sd_term.specs.declared.cube.Cube.{Cube}
use Rattle.sd_cube.specs.OpenCube.{IsOpenCube}
use Rattle.sd_kernel.specs.declared.proved.Proved.{Proved}
use Rattle.sd_product.specs.Work.{PairedPrograms, claims_in, queries_of}
use Rattle.sd_rounds.specs.declared.settle.Cause.{Cause}
use Rattle.sd_rounds.specs.declared.settle.Cause.TheVariants.{Open, Spent}
use Rattle.sd_rounds.specs.declared.settle.Death.{Death}
use Rattle.sd_rounds.specs.Table.{cleared}
use Rattle.sd_rounds.specs.Settled.{dead_of, IsCause, IsLegalDeath, AreLegal, IsSettled}
use Rattle.sd_run.specs.Verdicts.{is_spent}

-- ---- dead candidates

-- the query of candidate c has an open cube, under some table
pub record IsOpenAt (h : PairedPrograms) (c : ℕ) : Type 0 where
  pub seen : List Bool
  pub facts : List Tree
  pub cube : Cube
  pub query : slice_get (queries_of h seen) c ≡ Some facts
  pub «open» : IsOpenCube facts cube

open_at : (leaves : ℕ) (h : PairedPrograms) (c : ℕ) (seen : List Bool) (facts : List Tree) (cause : Cause) → slice_get (queries_of h seen) c ≡ Some facts → IsCause leaves facts cause → (is_spent cause ≡ true → ⊥) → IsOpenAt h c
open_at leaves h c seen facts (Open cube) query is unspent = record { seen = seen; facts = facts; cube = cube; query = query; «open» = is }
open_at leaves h c seen facts (Spent n) query is unspent = absurd (unspent refl)

set_false : (t : List Bool) (c i : ℕ) → slice_get (set t c false) i ≡ Some false → (slice_get t i ≡ Some false) ⊎ (c ≡ i)
set_false [] c i e = inl e
set_false (x ∷ xs) zero zero e = inr refl
set_false (x ∷ xs) zero (suc i) e = inl e
set_false (x ∷ xs) (suc c) zero e = inl e
set_false (x ∷ xs) (suc c) (suc i) e = elim (set_false xs c i e) [ inl h ↦ inl h | inr h ↦ inr (ap suc h) ]

cleared_false : (t : List Bool) (cs : List ℕ) (i : ℕ) → slice_get (cleared t cs) i ≡ Some false → (slice_get t i ≡ Some false) ⊎ Contains cs i
cleared_false t [] i e = inl e
cleared_false t (c ∷ cs) i e = elim (cleared_false (set t c false) cs i e) [
  | inl h ↦ elim (set_false t c i h) [ inl k ↦ inl k | inr k ↦ inr (subst (λ (j : ℕ). Contains (c ∷ cs) j) k (contains-head c cs)) ]
  | inr h ↦ inr (contains-tail c cs i h)
]

module _ (leaves : ℕ) (h : PairedPrograms) (table : List Bool) (deaths : List Death) (proofs : List Proved) (settled : IsSettled leaves h table deaths proofs) where
  record Lawful (c : ℕ) : Type 0 where
    before : List ℕ
    death : Death
    named : death.candidate ≡ c
    legal : IsLegalDeath leaves h before death

  -- one of some deaths is of candidate c, and is lawful
  record LawfulIn (ds : List Death) (c : ℕ) : Type 0 where
    one : Lawful c
    died : Contains ds one.death

  lawful : (before : List ℕ) (ds : List Death) (c : ℕ) → AreLegal leaves h before ds → Contains (dead_of ds) c → LawfulIn ds c
  lawful before [] c a (k, within, is) = absurd (omega arith)
  lawful before (d ∷ ds) c a (zero, within, is) = record { one = record { before = before; death = d; named = is; legal = a.0 }; died = contains-head d ds }
  lawful before (d ∷ ds) c a (suc k, within, is) =
      let l = lawful (before ++ d.candidate ∷ []) ds c a.1 (k, omega arith, is) in
      record { one = l.one; died = contains-tail d ds l.one.death l.died }

  -- the query of a dead candidate was open, unless the search for its proof was spent
  pub dead_open : (c : ℕ) → c < length (claims_in h) → slice_get table c ≡ Some false → ((d : Death) → Contains deaths d → d.candidate ≡ c → is_spent d.cause ≡ true → ⊥) → IsOpenAt h c
  dead_open c below dead unspent =
      let count : ℕ = length (claims_in h) in
      let full : slice_get (replicate count true) c ≡ Some true =
      slice_get-get_or (replicate count true) c false (subst (λ (n : ℕ). c < n) (sym (length-replicate count true)) below) ∙ ap Some (get_or-replicate count c true false below) in
      let gone : slice_get (cleared (replicate count true) (dead_of deaths)) c ≡ Some false = ap (λ t. slice_get t c) (sym settled.table_is) ∙ dead in
      elim (cleared_false (replicate count true) (dead_of deaths) c gone) [
        | inl bad ↦ absurd (let worse : false ≡ true = same_Some false true (sym bad ∙ full) in cc)
        | inr found ↦
            let in_deaths : LawfulIn deaths c = lawful [] deaths c settled.legal found in
            let l : Lawful c = in_deaths.one in
            open_at leaves h c l.legal.seen l.legal.facts l.death.cause (ap (λ k. slice_get (queries_of h l.legal.seen) k) (sym l.named) ∙ l.legal.query) l.legal.cause (unspent l.death in_deaths.died l.named)
      ]
