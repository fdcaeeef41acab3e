-- The test of equal names.
use Rattle.std.proofs.Common.{◌≡◌, ◌∙◌, ap, refl, Bool, true, false, ◌↔◌, IsTrue}
use Rattle.std.specs.Cmp.Lexicographic.{bytes_decides, nat_list_eq_equiv}
use Rattle.sd_base.specs.Value.{Text, same_text}

pub same_text-is : (s t : Text) → same_text s t ≡ true → s ≡ t
same_text-is s t h = (bytes_decides s t).0 h

pub same_text-refl : (t : Text) → same_text t t ≡ true
same_text-refl t = (bytes_decides t t).1 refl

pub same_text-flip : (s t : Text) → same_text s t ≡ same_text t s
same_text-flip s t = nat_list_eq_equiv.symm s t

pub same_text-other_way : (s t : Text) → same_text s t ≡ false → same_text t s ≡ false
same_text-other_way s t h = same_text-flip t s ∙ h

-- a test that is true where two names are one is this test
pub same_text-test : (s t : Text) (b : Bool) → (IsTrue b ↔ (s ≡ t)) → b ≡ same_text s t
same_text-test s t b h = go b (same_text s t) h refl
  where
    go : (b c : Bool) → (IsTrue b ↔ (s ≡ t)) → same_text s t ≡ c → b ≡ c
    go true true h e = refl
    go false false h e = refl
    go true false h e = absurd (let a = ap (same_text s) (h.0 refl) in let r = same_text-refl s in cc)
    go false true h e = h.1 (same_text-is s t e)
