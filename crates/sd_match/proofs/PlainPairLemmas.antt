-- The pairs of two programs, in plain words.
use Rattle.std.proofs.Common.{◌≡◌, ◌∙◌, sym, ap, refl, subst, ℕ, zero, suc, ◌+◌, Bool, true, false, List, [], ◌∷◌, map, inl, inr, arith}
use Rattle.std.proofs.lemmas.Bool.{and_from, and_parts}
use Rattle.std.proofs.lemmas.Option.{none-some, same_Some}
use Rattle.std.specs.Prelude.{◌==◌, ◌&&◌, ◌↔◌, Option, Some, None, is_none, slice_get, if◌then◌else◌}
use Rattle.std.specs.List.{AllByRecursion, IsDistinct}
use Rattle.sd_base.specs.declared.Var.{Var}
use Rattle.sd_base.specs.Value.{Text, same_text}
use Rattle.sd_base.proofs.Texts.{same_text-is, same_text-refl, same_text-flip}
use Rattle.sd_base.proofs.SortLemmas.{same_sort-is, same_sort-refl}
use Rattle.sd_core.specs.declared.CoreProc.{CoreProc}
use Rattle.sd_core.specs.declared.CoreProgram.{CoreProgram}
use Rattle.sd_core.specs.Formed.{sorts_of, same_sort, roots, WellFormed}
use Rattle.sd_match.specs.Pairs.{same_sorts, same_types, root_from, is_loop_of, loop_at, loop_partner, loop_partner_at, loop_partner_in, partner, partner_by, is_unmatched}
use Rattle.sd_match.specs.PlainPairs.{IsInText, IsLoopOf, HaveSameTypes, ArePartners, HasNoPartner}
use Rattle.sd_match.proofs.PartnerLemmas.{loop_is}

-- ---- types

sorts_is : (xs ys : List Var) → same_sorts xs ys ≡ true → sorts_of xs ≡ sorts_of ys
sorts_is [] [] h = refl
sorts_is [] (y ∷ ys) h = absurd (cc)
sorts_is (x ∷ xs) [] h = absurd (cc)
sorts_is (x ∷ xs) (y ∷ ys) h =
    let k = and_parts (same_sort x.sort y.sort) (same_sorts xs ys) h in
    λ i. same_sort-is x.sort y.sort k.0 i ∷ sorts_is xs ys k.1 i

sorts_same : (xs ys : List Var) → sorts_of xs ≡ sorts_of ys → same_sorts xs ys ≡ true
sorts_same [] [] h = refl
sorts_same [] (y ∷ ys) h = absurd (cc)
sorts_same (x ∷ xs) [] h = absurd (cc)
sorts_same (x ∷ xs) (y ∷ ys) h =
    let head : x.sort ≡ y.sort = cc in
    let tail : sorts_of xs ≡ sorts_of ys = cc in
    and_from (same_sort x.sort y.sort) (same_sorts xs ys) (ap (same_sort x.sort) (sym head) ∙ same_sort-refl x.sort) (sorts_same xs ys tail)

pub types_exact : (p q : CoreProc) → (same_types p q ≡ true) ↔ HaveSameTypes p q
types_exact p q = (
  λ h. let k = and_parts (same_sorts p.ins q.ins) (same_sorts p.outs q.outs) h in (sorts_is p.ins q.ins k.0, sorts_is p.outs q.outs k.1),
  λ h. and_from (same_sorts p.ins q.ins) (same_sorts p.outs q.outs) (sorts_same p.ins q.ins h.0) (sorts_same p.outs q.outs h.1),
)

-- ---- procedures of the text by their names

pub record IsFound (n : ℕ) (ps : List CoreProc) (f : Text) (j : ℕ) : Type 0 where
  pub place : ℕ
  pub proc : CoreProc
  pub at : j ≡ n + place
  pub is : slice_get ps place ≡ Some proc
  pub is_root : proc.parent ≡ None
  pub name : f ≡ proc.name

none_parent : (p : CoreProc) → is_none p.parent ≡ true → p.parent ≡ None
none_parent p e = go p.parent e
  where
    go : (o : Option (ℕ × ℕ)) → is_none o ≡ true → o ≡ None
    go None e = refl
    go (Some x) e = absurd (cc)

root_found : (n : ℕ) (ps : List CoreProc) (f : Text) (j : ℕ) → root_from n ps f ≡ Some j → IsFound n ps f j
root_found n [] f j e = absurd (none-some j e)
root_found n (p ∷ ps) f j e = go (is_none p.parent && same_text f p.name) refl e (λ h. root_found (suc n) ps f j h)
  where
    go : (b : Bool) → (is_none p.parent && same_text f p.name) ≡ b → (if b then Some n else root_from (suc n) ps f) ≡ Some j → (root_from (suc n) ps f ≡ Some j → IsFound (suc n) ps f j) → IsFound n (p ∷ ps) f j
    go true is e rest =
        let k = and_parts (is_none p.parent) (same_text f p.name) is in
        let s : n ≡ j = same_Some n j e in
        record { place = zero; proc = p; at = omega (arith, s); is = refl; is_root = none_parent p k.0; name = same_text-is f p.name k.1 }
    go false is e rest =
        let r = rest e in
        record { place = suc r.place; proc = r.proc; at = omega (arith, r.at); is = r.is; is_root = r.is_root; name = r.name }

names_roots : List CoreProc → List Text
names_roots ps = map (λ p. p.name) (roots ps)

off_roots : (x : Text) (ps : List CoreProc) (k : ℕ) (q : CoreProc) → AllByRecursion (λ z. same_text x z ≡ false) (map (λ p. p.name) (roots ps)) → slice_get ps k ≡ Some q → q.parent ≡ None → same_text x q.name ≡ false
off_roots x [] k q all e r = absurd (none-some q e)
off_roots x (p ∷ ps) zero q all e r =
    let same : p ≡ q = same_Some p q e in
    let top : is_none p.parent ≡ true = ap (λ (y : CoreProc). is_none y.parent) same ∙ ap is_none r in
    let them : AllByRecursion (λ z. same_text x z ≡ false) (p.name ∷ map (λ p. p.name) (roots ps)) = subst (λ b. AllByRecursion (λ z. same_text x z ≡ false) (map (λ (y : CoreProc). y.name) (if b then p ∷ roots ps else roots ps))) top all in
    subst (λ (y : CoreProc). same_text x y.name ≡ false) same them.0
off_roots x (p ∷ ps) (suc k) q all e r = off_roots x ps k q (go (is_none p.parent) all) e r
  where
    go : (b : Bool) → AllByRecursion (λ z. same_text x z ≡ false) (map (λ (y : CoreProc). y.name) (if b then p ∷ roots ps else roots ps)) → AllByRecursion (λ z. same_text x z ≡ false) (map (λ (y : CoreProc). y.name) (roots ps))
    go true h = h.1
    go false h = h

root_at : (n : ℕ) (ps : List CoreProc) (k : ℕ) (q : CoreProc) → IsDistinct same_text (map (λ p. p.name) (roots ps)) → slice_get ps k ≡ Some q → q.parent ≡ None → root_from n ps q.name ≡ Some (n + k)
unfolding IsDistinct
root_at n [] k q distinct e r = absurd (none-some q e)
root_at n (p ∷ ps) zero q distinct e r =
    let same : p ≡ q = same_Some p q e in
    let top : is_none p.parent ≡ true = ap (λ (y : CoreProc). is_none y.parent) same ∙ ap is_none r in
    let name : same_text q.name p.name ≡ true = ap (λ (y : CoreProc). same_text q.name y.name) same ∙ same_text-refl q.name in
    ap (λ b. if b then Some n else root_from (suc n) ps q.name) (and_from (is_none p.parent) (same_text q.name p.name) top name) ∙ ap Some (omega arith)
root_at n (p ∷ ps) (suc k) q distinct e r = go (is_none p.parent) distinct (λ d. root_at (suc n) ps k q d e r)
  where
    go : (b : Bool) → IsDistinct same_text (map (λ (y : CoreProc). y.name) (if b then p ∷ roots ps else roots ps)) → (IsDistinct same_text (map (λ (y : CoreProc). y.name) (roots ps)) → root_from (suc n) ps q.name ≡ Some (suc n + k)) → (if b && same_text q.name p.name then Some n else root_from (suc n) ps q.name) ≡ Some (n + suc k)
    go true d rest =
        let off : same_text q.name p.name ≡ false = same_text-flip q.name p.name ∙ off_roots p.name ps k q d.0 e r in
        ap (λ b. if b then Some n else root_from (suc n) ps q.name) off ∙ rest d.1 ∙ ap Some (omega arith)
    go false d rest = rest d ∙ ap Some (omega arith)

root_is : (Q : CoreProgram) (j : ℕ) (q : CoreProc) → WellFormed Q → IsInText Q j q → root_from 0 Q.procs q.name ≡ Some j
root_is Q j q formed at = root_at 0 Q.procs j q formed.proc_names at.0 at.1 ∙ ap Some (omega arith)

-- ---- partners

is_loop-parts : (q k : ℕ) (o : Option (ℕ × ℕ)) → is_loop_of q k o ≡ true → o ≡ Some (q, k)
is_loop-parts q k None e = absurd (cc)
is_loop-parts q k (Some x) e =
    let h = and_parts (x.0 == q) (x.1 == k) e in
    let a : x.0 ≡ q = grind (arith, h.0) in
    let b : x.1 ≡ k = grind (arith, h.1) in
    λ i. Some (a i, b i)

module _ (P Q : CoreProgram) (formed : WellFormed P) (formed' : WellFormed Q) where
  loop_found : (i k n : ℕ) (root : CoreProc) (m : ℕ) (loop : CoreProc) → IsInText P i root → IsLoopOf P m loop i k → loop_partner_at Q root k (root_from 0 Q.procs root.name) ≡ Some n → ArePartners P Q m n
  loop_found i k n root m loop top is e = by_place (root_from 0 Q.procs root.name) refl e
    where
      by_place : (o : Option ℕ) → root_from 0 Q.procs root.name ≡ o → loop_partner_at Q root k o ≡ Some n → ArePartners P Q m n
      by_place None found e = absurd (none-some n e)
      by_place (Some j) found e = by_other (slice_get Q.procs j) refl e
        where
          by_loop : (q : CoreProc) → slice_get Q.procs j ≡ Some q → same_types root q ≡ true → (o : Option CoreProc) → slice_get Q.procs (j + k) ≡ o → loop_at Q.procs j k o ≡ Some n → ArePartners P Q m n
          by_loop q at types None here e = absurd (none-some n e)
          by_loop q at types (Some loop') here e = by_test (is_loop_of j k loop'.parent) refl e
            where
              by_test : (b : Bool) → is_loop_of j k loop'.parent ≡ b → (if b then Some (j + k) else None) ≡ Some n → ArePartners P Q m n
              by_test true test e =
                  let f = root_found 0 Q.procs root.name j found in
                  let place : f.place ≡ j = omega (arith, f.at) in
                  let same : f.proc ≡ q = same_Some f.proc q (sym f.is ∙ ap (slice_get Q.procs) place ∙ at) in
                  inr (record {
                    i = i;
                    j = j;
                    p = root;
                    q = q;
                    namesakes = record { old = top; new = (at, sym (ap (λ (y : CoreProc). y.parent) same) ∙ f.is_root); name = f.name ∙ ap (λ (y : CoreProc). y.name) same };
                    types = (types_exact root q).0 types;
                    number = k;
                    old_loop = loop;
                    new_loop = loop';
                    old = is;
                    new = (ap (slice_get Q.procs) (sym (same_Some (j + k) n e)) ∙ here, is_loop-parts j k loop'.parent test);
                  })
              by_test false test e = absurd (none-some n e)

          by_types : (q : CoreProc) → slice_get Q.procs j ≡ Some q → (b : Bool) → same_types root q ≡ b → (if b then loop_at Q.procs j k (slice_get Q.procs (j + k)) else None) ≡ Some n → ArePartners P Q m n
          by_types q at true types e = by_loop q at types (slice_get Q.procs (j + k)) refl e
          by_types q at false types e = absurd (none-some n e)

          by_other : (o : Option CoreProc) → slice_get Q.procs j ≡ o → loop_partner Q root k j o ≡ Some n → ArePartners P Q m n
          by_other None at e = absurd (none-some n e)
          by_other (Some q) at e = by_types q at (same_types root q) refl e

  pub partner_found : (m n : ℕ) (p : CoreProc) → slice_get P.procs m ≡ Some p → partner P Q p ≡ Some n → ArePartners P Q m n
  partner_found m n p at e = by_parent p.parent refl e
    where
      by_parent : (o : Option (ℕ × ℕ)) → p.parent ≡ o → partner_by P Q p o ≡ Some n → ArePartners P Q m n
      by_parent None parent e =
          let f = root_found 0 Q.procs p.name n e in
          let place : f.place ≡ n = omega (arith, f.at) in
          inl (p, f.proc, record { old = (at, parent); new = (ap (slice_get Q.procs) (sym place) ∙ f.is, f.is_root); name = f.name })
      by_parent (Some x) parent e =
          let l = loop_is P m p x formed at parent in
          loop_found x.0 x.1 n l.root m p (l.found, l.is_root) (at, parent) (sym (ap (λ o. loop_partner_in Q o x.1) l.found) ∙ e)

  same_loop : (j k n : ℕ) (loop : CoreProc) → IsLoopOf Q n loop j k → loop_at Q.procs j k (slice_get Q.procs (j + k)) ≡ Some n
  same_loop j k n loop is =
      let l = loop_is Q n loop (j, k) formed' is.0 is.1 in
      let here : slice_get Q.procs (j + k) ≡ Some loop = ap (slice_get Q.procs) (sym l.place) ∙ is.0 in
      let self : (j == j && k == k) ≡ true = grind (arith) in
      ap (loop_at Q.procs j k) here ∙ ap (λ o. if is_loop_of j k o then Some (j + k) else None) is.1
      ∙ ap (λ b. if b then Some (j + k) else None) self ∙ ap Some (sym l.place)

  pub partner_is : (m n : ℕ) (p : CoreProc) → slice_get P.procs m ≡ Some p → ArePartners P Q m n → partner P Q p ≡ Some n
  partner_is m n p at (inl h) =
      let same : h.0 ≡ p = same_Some h.0 p (sym h.2.old.0 ∙ at) in
      ap (partner P Q) (sym same) ∙ ap (partner_by P Q h.0) h.2.old.1 ∙ ap (root_from 0 Q.procs) h.2.name ∙ root_is Q n h.1 formed' h.2.new
  partner_is m n p at (inr h) =
      let same : h.old_loop ≡ p = same_Some h.old_loop p (sym h.old.0 ∙ at) in
      ap (partner P Q) (sym same) ∙ ap (partner_by P Q h.old_loop) h.old.1
      ∙ ap (λ o. loop_partner_in Q o h.number) h.namesakes.old.0
      ∙ ap (loop_partner_at Q h.p h.number) (ap (root_from 0 Q.procs) h.namesakes.name ∙ root_is Q h.j h.q formed' h.namesakes.new)
      ∙ ap (loop_partner Q h.p h.number h.j) h.namesakes.new.0
      ∙ ap (λ b. if b then loop_at Q.procs h.j h.number (slice_get Q.procs (h.j + h.number)) else None) ((types_exact h.p h.q).1 h.types)
      ∙ same_loop h.j h.number n h.new_loop h.new

  -- ---- procedures without partners

  -- partners are procedures of the old program, and of the new one
  pub old_there : (m n : ℕ) → ArePartners P Q m n → (p : CoreProc) × (slice_get P.procs m ≡ Some p)
  old_there m n (inl h) = (h.0, h.2.old.0)
  old_there m n (inr h) = (h.old_loop, h.old.0)

  pub new_there : (m n : ℕ) → ArePartners P Q m n → (q : CoreProc) × (slice_get Q.procs n ≡ Some q)
  new_there m n (inl h) = (h.1, h.2.new.0)
  new_there m n (inr h) = (h.new_loop, h.new.0)

  pub unmatched_exact : (c : ℕ) → (is_unmatched P Q (slice_get P.procs c) ≡ true) ↔ HasNoPartner P Q c
  unmatched_exact c = (
    λ h d are.
        let t = old_there c d are in
        let some = sym (ap (is_unmatched P Q) t.1 ∙ ap is_none (partner_is c d t.0 t.1 are)) ∙ h in
        absurd (let bad : false ≡ true = some in cc),
    λ alone. by_proc alone (slice_get P.procs c) refl,
  )
    where
      by_partner : HasNoPartner P Q c → (p : CoreProc) → slice_get P.procs c ≡ Some p → (o : Option ℕ) → partner P Q p ≡ o → is_none o ≡ true
      by_partner alone p at None e = refl
      by_partner alone p at (Some d) e = absurd (alone d (partner_found c d p at e))

      by_proc : HasNoPartner P Q c → (o : Option CoreProc) → slice_get P.procs c ≡ o → is_unmatched P Q o ≡ true
      by_proc alone None at = refl
      by_proc alone (Some p) at = by_partner alone p at (partner P Q p) refl
