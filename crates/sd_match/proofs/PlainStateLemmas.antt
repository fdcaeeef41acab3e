-- The states of pairs, in plain words.
use Rattle.std.proofs.Common.{◌≡◌, ◌∙◌, sym, ap, refl, subst, ℕ, Bool, true, false, inl, inr}
use Rattle.std.specs.Prelude.{Option, Some, None, if◌then◌else◌}
use Rattle.sd_base.specs.Value.{Text}
use Rattle.sd_core.specs.declared.CoreProc.{CoreProc}
use Rattle.sd_core.specs.declared.CoreProgram.{CoreProgram}
use Rattle.sd_core.specs.Formed.{WellFormed}
use Rattle.sd_match.specs.declared.pair.PairState.TheVariants.{Open, Signature, UnmatchedRecursion}
use Rattle.sd_match.specs.Pairs.{same_types, first_unmatched, state_by, state_of}
use Rattle.sd_match.specs.PlainPairs.{HaveSameTypes, AreNamesakes, CallsNoUnmatched, IsRefusedFor, HasState}
use Rattle.sd_match.proofs.PlainPairLemmas.{types_exact}
use Rattle.sd_match.proofs.PlainCallLemmas.{IsTold, told, one_name}

module _ (P Q : CoreProgram) (i j : ℕ) (p q : CoreProc) where
  differing : (HaveSameTypes p q → ⊥) → HasState P Q i j p q Signature
  differing differ = record {
    signature = (λ e. differ, λ h. refl);
    unmatched = λ x. (λ e. absurd (let bad : Signature ≡ UnmatchedRecursion x = e in cc), λ h. absurd (differ h.0));
    is_open = (λ e. absurd (let bad : Signature ≡ Open = e in cc), λ h. absurd (differ h.0));
  }

  calling : HaveSameTypes p q → (x : Text) → IsRefusedFor P Q i j x → HasState P Q i j p q (UnmatchedRecursion x)
  calling same x for = record {
    signature = (λ e. absurd (let bad : UnmatchedRecursion x ≡ Signature = e in cc), λ h. absurd (h same));
    unmatched = λ y. (
      λ e. let name : x ≡ y = (let h : UnmatchedRecursion x ≡ UnmatchedRecursion y = e in cc) in (same, subst (IsRefusedFor P Q i j) name for),
      λ h. ap UnmatchedRecursion (one for y h.1),
    );
    is_open = (λ e. absurd (let bad : UnmatchedRecursion x ≡ Open = e in cc), λ h. absurd (calls for h.1.0 h.1.1));
  }
    where
      one : IsRefusedFor P Q i j x → (y : Text) → IsRefusedFor P Q i j y → x ≡ y
      one (inl a) y (inl b) = one_name P Q i x y a b
      one (inl a) y (inr b) = absurd (b.0 a.place a.first.0)
      one (inr a) y (inl b) = absurd (a.0 b.place b.first.0)
      one (inr a) y (inr b) = one_name Q P j x y a.1 b.1

      calls : IsRefusedFor P Q i j x → CallsNoUnmatched P Q i → CallsNoUnmatched Q P j → ⊥
      calls (inl a) f g = f a.place a.first.0
      calls (inr a) f g = g a.1.place a.1.first.0

  open_state : HaveSameTypes p q → CallsNoUnmatched P Q i → CallsNoUnmatched Q P j → HasState P Q i j p q Open
  open_state same f g = record {
    signature = (λ e. absurd (let bad : Open ≡ Signature = e in cc), λ h. absurd (h same));
    unmatched = λ x. (λ e. absurd (let bad : Open ≡ UnmatchedRecursion x = e in cc), λ h. absurd (calls x h.1));
    is_open = (λ e. (same, (f, g)), λ h. refl);
  }
    where
      calls : (x : Text) → IsRefusedFor P Q i j x → ⊥
      calls x (inl a) = f a.place a.first.0
      calls x (inr a) = g a.1.place a.1.first.0

  by_told : HaveSameTypes p q → (o o' : Option Text) → IsTold P Q i o → IsTold Q P j o' → HasState P Q i j p q (state_by o o')
  by_told same (Some x) o' t t' = calling same x (inl t)
  by_told same None (Some x) t t' = calling same x (inr (t, t'))
  by_told same None None t t' = open_state same t t'

pub state_exact : (P Q : CoreProgram) (i j : ℕ) (p q : CoreProc) → WellFormed P → WellFormed Q → AreNamesakes P Q i j p q → HasState P Q i j p q (state_of P Q i j (Some p) (Some q))
state_exact P Q i j p q formed formed' are = by_types (same_types p q) refl
  where
    by_types : (b : Bool) → same_types p q ≡ b → HasState P Q i j p q (if b then state_by (first_unmatched P Q i) (first_unmatched Q P j) else Signature)
    by_types true e = by_told P Q i j p q ((types_exact p q).0 e) (first_unmatched P Q i) (first_unmatched Q P j) (told P Q formed formed' i p are.old) (told Q P formed' formed j q are.new)
    by_types false e = differing P Q i j p q (λ h. let bad : false ≡ true = sym e ∙ (types_exact p q).1 h in cc)
