-- tests of sorts
use Rattle.std.proofs.Common.{◌≡◌, sym, ap, ◌∙◌, Bool, true, ◌↔◌}
use Rattle.sd_base.specs.declared.sort.Sort.{Sort}
use Rattle.sd_term.specs.Sorts.{same_sort, same_sort-true, same_sort-self}
use Rattle.sd_kernel.proofs.NodeTests.{by-iff}

pub same_sort-test : (s r : Sort) (b : Bool) → (b ≡ true) ↔ (s ≡ r) → b ≡ same_sort s r
same_sort-test s r b h = by-iff b (same_sort s r) (λ e. ap (λ u. same_sort s u) (sym (h.0 e)) ∙ same_sort-self s) (λ e. h.1 (same_sort-true s r e))
