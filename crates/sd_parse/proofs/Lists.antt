-- Items one after another, as their languages say.
use Rattle.std.proofs.Common.{◌≡◌, ℕ, zero, suc, ◌<◌, true, false, List, [], ◌∷◌, ◌++◌, length, length-append, refl, ap, sym, ◌∙◌, subst, arith, append_assoc}
use Rattle.std.specs.Prelude.{Bool}
use Rattle.std.proofs.lemmas.List.{append-nil}
use Rattle.sd_parse.specs.declared.class.TokenClass.{TokenClass}
use Rattle.sd_parse.specs.Grammar.{Tokens}
use Rattle.sd_parse.specs.Reading.{Got, Reader, ahead, class_of, many, all}
use Rattle.sd_parse.specs.ReadingRows.{push, join_lists}
use Rattle.sd_parse.proofs.Texts as r
use Rattle.sd_parse.proofs.Texts.{Repeat}

pub data Many {A : Type 0} (F : Tokens → A → Type 0) : Tokens → List A → Type 0 where
  none : Many F [] []
  more : {u v : Tokens} {x : A} {xs : List A} → F u x → Many F v xs → Many F (u ++ v) (x ∷ xs)

pub data Joined {A : Type 0} (F : Tokens → List A → Type 0) : Tokens → List A → Type 0 where
  none : Joined F [] []
  more : {u v : Tokens} {xs ys : List A} → F u xs → Joined F v ys → Joined F (u ++ v) (xs ++ ys)

-- items behind those of acc
pub record Behind {A : Type 0} (G : Tokens → List A → Type 0) (acc : List A) (u : Tokens) (all : List A) : Type 0 where
  pub items : List A
  pub same : all ≡ acc ++ items
  pub list : G u items

module _ {A : Type 0} (F : Tokens → A → Type 0) (begins : TokenClass → Bool) where
  pub pushed : {acc : List A} {u : Tokens} {y : List A} → Repeat F begins push acc u y → Behind (Many F) acc u y
  pushed {acc} r.none = record { items = []; same = sym (append-nil acc); list = none }
  pushed {acc} (r.more {x = x} f m) = let w = pushed m in record { items = x ∷ w.items; same = w.same ∙ append_assoc acc (x ∷ []) w.items; list = more f w.list }

  pub push_all : {u : Tokens} {xs : List A} → Many F u xs → (acc : List A) → Repeat F begins push acc u (acc ++ xs)
  push_all none acc = subst (λ y. Repeat F begins push acc [] y) (sym (append-nil acc)) r.none
  push_all (more {u = u} {v = v} {x = x} {xs = xs} f m) acc = subst (λ y. Repeat F begins push acc (u ++ v) y) (append_assoc acc (x ∷ []) xs) (r.more f (push_all m (acc ++ x ∷ [])))

module _ {A : Type 0} (F : Tokens → List A → Type 0) (begins : TokenClass → Bool) where
  pub joined : {acc : List A} {u : Tokens} {y : List A} → Repeat F begins join_lists acc u y → Behind (Joined F) acc u y
  joined {acc} r.none = record { items = []; same = sym (append-nil acc); list = none }
  joined {acc} (r.more {x = xs} f m) = let w = joined m in record { items = xs ++ w.items; same = w.same ∙ append_assoc acc xs w.items; list = more f w.list }

  pub join_all : {u : Tokens} {xs : List A} → Joined F u xs → (acc : List A) → Repeat F begins join_lists acc u (acc ++ xs)
  join_all none acc = subst (λ y. Repeat F begins join_lists acc [] y) (sym (append-nil acc)) r.none
  join_all (more {u = u} {v = v} {xs = xs} {ys = ys} f m) acc = subst (λ y. Repeat F begins join_lists acc (u ++ v) y) (append_assoc acc xs ys) (r.more f (join_all m (acc ++ xs)))

-- what is spelled is read, where what follows an item lets it end
module _ {A B : Type 0} (F : Tokens → A → Type 0) (begins : TokenClass → Bool) (item : Reader A) (add : B → A → B) (Ends : Tokens → Type 0)
    (some : (u : Tokens) (x : A) → F u x → 0 < length u)
    (first : (u : Tokens) (x : A) (rest : Tokens) → F u x → begins (class_of (ahead (u ++ rest))) ≡ true)
    (apart : (rest : Tokens) → begins (class_of (ahead rest)) ≡ true → Ends rest)
    (complete : (u : Tokens) (x : A) (rest : Tokens) → F u x → Ends rest → item (u ++ rest) ≡ Got x rest) where
  ended : (rest : Tokens) → Ends rest → {acc y : B} {u : Tokens} → Repeat F begins add acc u y → Ends (u ++ rest)
  ended rest e r.none = e
  ended rest e (r.more {u = u} {v = v} {x = x} f m) = apart ((u ++ v) ++ rest) (ap (λ z. begins (class_of (ahead z))) (append_assoc u v rest) ∙ first u x (v ++ rest) f)

  many_complete : (rest : Tokens) → Ends rest → begins (class_of (ahead rest)) ≡ false → {acc y : B} {u : Tokens} → Repeat F begins add acc u y → (n : ℕ) → length u < n → many begins item add n acc (u ++ rest) ≡ Got y rest
  unfolding many
  many_complete rest e stops r.none zero room = absurd (omega arith)
  many_complete rest e stops r.none (suc n) room = rw stops refl
  many_complete rest e stops (r.more f m) zero room = absurd (omega arith)
  many_complete rest e stops (r.more {u = u} {v = v} {x = x} {acc = acc} f m) (suc n) room =
      let split = append_assoc u v rest in
      let yes : begins (class_of (ahead (u ++ (v ++ rest)))) ≡ true = first u x (v ++ rest) f in
      let read : item (u ++ (v ++ rest)) ≡ Got x (v ++ rest) = complete u x (v ++ rest) f (ended rest e m) in
      let shorter : length v < n = let z = some u x f in let y = length-append u v in omega arith in
      rw (split, yes, read) (many_complete rest e stops m n shorter)

  pub all_complete : (rest : Tokens) → Ends rest → begins (class_of (ahead rest)) ≡ false → {acc y : B} {u : Tokens} → Repeat F begins add acc u y → all begins item add acc (u ++ rest) ≡ Got y rest
  all_complete rest e stops {u = u} m = let z = length-append u rest in many_complete rest e stops m (suc (length (u ++ rest))) (omega arith)
