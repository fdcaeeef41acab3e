-- Partners.
use Rattle.std.proofs.Common.{◌≡◌, ◌∙◌, sym, ap, subst, ℕ, ◌<◌, List, map, take, get_or, arith}
use Rattle.std.specs.Prelude.{Option, Some, None, slice_get}
use Rattle.sd_core.specs.declared.CoreProc.{CoreProc}
use Rattle.sd_core.specs.declared.CoreProgram.{CoreProgram}
use Rattle.sd_core.specs.Formed.{WellFormed, IsPlaced, IsLoop}
use Rattle.sd_match.specs.Pairs.{root_from, loop_partner_at, loop_partner_in, partner, partner_by}
use Rattle.sd_match.proofs.ListLemmas.{some_is, get_or-map-take}

-- what is known of a loop
pub loop_is : (P : CoreProgram) (n : ℕ) (p : CoreProc) (parent : ℕ × ℕ) → WellFormed P → slice_get P.procs n ≡ Some p → p.parent ≡ Some parent → IsLoop P n parent.0 parent.1 p
loop_is P n p parent formed here e = subst (λ o. IsPlaced P n o p) e ((formed.procs n p here).place)

-- The procedure that a loop stands in comes before it, so its partner is known.
pub root_partner : (P Q : CoreProgram) (n : ℕ) (p : CoreProc) (parent : ℕ × ℕ) (root : CoreProc) (partners : List (Option ℕ)) → WellFormed P → slice_get P.procs n ≡ Some p → p.parent ≡ Some parent → slice_get P.procs parent.0 ≡ Some root
    → partners ≡ map (partner P Q) (take n P.procs) → get_or partners parent.0 None ≡ root_from 0 Q.procs root.name
root_partner P Q n p parent root partners formed here e found are =
    let l = loop_is P n p parent formed here e in
    let below : parent.0 < n = omega (arith, l.place, l.counted) in
    let same : l.root ≡ root = some_is l.root root (sym l.found ∙ found) in
    let top : root.parent ≡ None = sym (ap (λ (r : CoreProc). r.parent) same) ∙ l.is_root in
    ap (λ ps. get_or ps parent.0 None) are ∙ get_or-map-take (partner P Q) P.procs n parent.0 root None below found ∙ ap (partner_by P Q root) top

pub loop_partner-is : (P Q : CoreProgram) (n : ℕ) (p : CoreProc) (parent : ℕ × ℕ) (root : CoreProc) (partners : List (Option ℕ)) → WellFormed P → slice_get P.procs n ≡ Some p → p.parent ≡ Some parent → slice_get P.procs parent.0 ≡ Some root
    → partners ≡ map (partner P Q) (take n P.procs) → loop_partner_at Q root parent.1 (get_or partners parent.0 None) ≡ partner P Q p
loop_partner-is P Q n p parent root partners formed here e found are =
    ap (loop_partner_at Q root parent.1) (root_partner P Q n p parent root partners formed here e found are)
    ∙ sym (ap (partner_by P Q p) e ∙ ap (λ o. loop_partner_in Q o parent.1) found)
