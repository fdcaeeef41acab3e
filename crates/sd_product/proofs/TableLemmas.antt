-- How the candidates of a pair are found among those of all pairs.
use Rattle.std.proofs.Common.{◌≡◌, ℕ, zero, suc, ◌+◌, ◌<◌, ◌≤◌, Bool, true, false, List, [], ◌∷◌, ◌++◌, length, take, drop, get_or, refl, sym, ap, subst, ◌∙◌, arith}
use Rattle.std.specs.Prelude.{◌==◌, ◌&&◌, ◌↔◌, IsTrue, map, Option, Some, None, slice_get, if◌then◌else◌}
use Rattle.std.proofs.lemmas.List.{append_assoc, append-nil, length-append}
use Rattle.std.proofs.lemmas.Bool.{eqb-true, eq-eqb}
use Rattle.std.proofs.Math.Bool.{and-true}
use Rattle.sd_term.specs.Tree.{Tree, and-left, and-right}
use Rattle.sd_match.specs.declared.pair.Pair.{Pair}
use Rattle.sd_cand.specs.declared.candidate.Candidate.{Candidate}
use Rattle.sd_vcgen.specs.Body.{Site}
use Rattle.sd_vcgen.proofs.Loops.{drop_split}
use Rattle.sd_product.specs.Query.{Claimed, is_live, is_about, implication, calls_related, with_each, all_related}
use Rattle.sd_product.specs.Numbering.{FindsPairs}
use Rattle.sd_product.specs.Claims.{claimed, claims_in, before}

abbrev pub is_of : Pair → ℕ → ℕ → Bool
is_of p old new = (p.old == old) && (p.new == new)

pub is_of-true : (p : Pair) (old new : ℕ) → p.old ≡ old → p.new ≡ new → is_of p old new ≡ true
is_of-true p old new e f = (λ i. eq-eqb p.old old e i && (p.new == new)) ∙ eq-eqb p.new new f

-- no other pair than the one in the table
no_other-by : (pairs : List Pair) (table : List (Option ℕ)) (old new place : ℕ) (r : Bool) → ((i : ℕ) (p : Pair) → slice_get pairs i ≡ Some p → get_or table p.old None ≡ Some i) → get_or table old None ≡ Some place → r ≡ false
    → (IsTrue r ↔ ((p : Pair) × (slice_get pairs place ≡ Some p) × (p.old ≡ old) × (p.new ≡ new))) → (i : ℕ) (p : Pair) → slice_get pairs i ≡ Some p → (b : Bool) → is_of p old new ≡ b → b ≡ false
no_other-by pairs table old new place r places entry off tells i p e false is = refl
no_other-by pairs table old new place r places entry off tells i p e true is =
    let olds : p.old ≡ old = eqb-true p.old old (and-left (p.old == old) (p.new == new) is) in
    let news : p.new ≡ new = eqb-true p.new new (and-right (p.old == old) (p.new == new) is) in
    let here : ◌≡◌ {A = Option ℕ} (Some i) (Some place) = sym (places i p e) ∙ ap (λ (k : ℕ). get_or table k None) olds ∙ entry in
    let same : i ≡ place = cc in
    let yes : r ≡ true = tells.1 (p, subst (λ (k : ℕ). slice_get pairs k ≡ Some p) same e, olds, news) in
    let bad : ◌≡◌ {A = Bool} true false = sym yes ∙ off in
    bad

pub no_other : (pairs : List Pair) (table : List (Option ℕ)) (old new place : ℕ) (r : Bool) → ((i : ℕ) (p : Pair) → slice_get pairs i ≡ Some p → get_or table p.old None ≡ Some i) → get_or table old None ≡ Some place → r ≡ false
    → (IsTrue r ↔ ((p : Pair) × (slice_get pairs place ≡ Some p) × (p.old ≡ old) × (p.new ≡ new))) → (i : ℕ) (p : Pair) → slice_get pairs i ≡ Some p → is_of p old new ≡ false
no_other pairs table old new place r places entry off tells i p e = no_other-by pairs table old new place r places entry off tells i p e (is_of p old new) refl

-- ---- candidates, one after another

pub related-append : (table : List Bool) (n : ℕ) (xs ys : List Claimed) (a b : Site) → calls_related table n (xs ++ ys) a b ≡ calls_related table n xs a b ++ calls_related table (n + length xs) ys a b
related-append table n [] ys a b = let e : n ≡ n + 0 = omega arith in ap (λ (k : ℕ). calls_related table k ys a b) e
related-append table n (x ∷ xs) ys a b =
    let here = if is_live table n && is_about x a b then implication x a b ∷ [] else [] in
    let e : suc n + length xs ≡ n + suc (length xs) = omega arith in
    ap (λ (l : List Tree). here ++ l) (related-append table (suc n) xs ys a b ∙ ap (λ (k : ℕ). calls_related table (suc n) xs a b ++ calls_related table k ys a b) e)
    ∙ sym (append_assoc here (calls_related table (suc n) xs a b) (calls_related table (n + suc (length xs)) ys a b))

and-false : (b : Bool) → b && false ≡ false
and-false true = refl
and-false false = refl

-- those of another pair say nothing
other_pair : (table : List Bool) (n : ℕ) (p : Pair) (cs : List Candidate) (a b : Site) → is_of p a.callee b.callee ≡ false → calls_related table n (claimed p cs) a b ≡ []
other_pair table n p [] a b off = refl
other_pair table n p (c ∷ cs) a b off =
    let x : Claimed = record { pair = p; candidate = c } in
    let test : (is_live table n && is_about x a b) ≡ false = ap (λ (r : Bool). is_live table n && r) off ∙ and-false (is_live table n) in
    (λ i. (if test i then implication x a b ∷ [] else []) ++ other_pair table (suc n) p cs a b off i)

first_no : (p : Pair) (ps : List Pair) (old new : ℕ) → ((i : ℕ) (q : Pair) → slice_get (p ∷ ps) i ≡ Some q → is_of q old new ≡ false) → is_of p old new ≡ false
first_no p ps old new h = h 0 p refl

pub no_pair : (table : List Bool) (n : ℕ) (pairs : List Pair) (lists : List (List Candidate)) (a b : Site) → ((i : ℕ) (p : Pair) → slice_get pairs i ≡ Some p → is_of p a.callee b.callee ≡ false) → calls_related table n (claims_in pairs lists) a b ≡ []
no_pair table n [] lists a b h = refl
no_pair table n (p ∷ ps) [] a b h = refl
no_pair table n (p ∷ ps) (cs ∷ lists) a b h =
    related-append table n (claimed p cs) (claims_in ps lists) a b
    ∙ (λ i. other_pair table n p cs a b (first_no p ps a.callee b.callee h) i ++ no_pair table (n + length (claimed p cs)) ps lists a b (λ k q e. h (suc k) q e) i)

-- those of the one pair of two callees
pub one_pair : (table : List Bool) (n : ℕ) (pairs : List Pair) (lists : List (List Candidate)) (a b : Site) (i : ℕ) (p : Pair) → length lists ≡ length pairs → slice_get pairs i ≡ Some p → ((k : ℕ) (q : Pair) → slice_get pairs k ≡ Some q → (k ≡ i → ⊥) → is_of q a.callee b.callee ≡ false)
    → calls_related table n (claims_in pairs lists) a b ≡ calls_related table (n + before pairs lists i) (claimed p (get_or lists i [])) a b
one_pair table n [] lists a b i p long e h = let bad : ◌≡◌ {A = Option Pair} None (Some p) = e in absurd (cc)
one_pair table n (q ∷ ps) [] a b i p long e h = absurd (omega (arith, long))
one_pair table n (q ∷ ps) (cs ∷ lists) a b zero p long e h =
    let same : q ≡ p = cc in
    let start : n ≡ n + 0 = omega arith in
    related-append table n (claimed q cs) (claims_in ps lists) a b
    ∙ ap (λ (l : List Tree). calls_related table n (claimed q cs) a b ++ l) (no_pair table (n + length (claimed q cs)) ps lists a b (λ k r f. h (suc k) r f (λ z. absurd (omega (arith, z)))))
    ∙ append-nil (calls_related table n (claimed q cs) a b)
    ∙ (λ j. calls_related table (start j) (claimed (same j) cs) a b)
one_pair table n (q ∷ ps) (cs ∷ lists) a b (suc i) p long e h =
    let off : is_of q a.callee b.callee ≡ false = h 0 q refl (λ z. absurd (omega (arith, z))) in
    let size = length-append (claimed q cs) (claims_in (take i ps) (take i lists)) in
    let at : (n + length (claimed q cs)) + before ps lists i ≡ n + length (claimed q cs ++ claims_in (take i ps) (take i lists)) = omega (arith, size) in
    related-append table n (claimed q cs) (claims_in ps lists) a b
    ∙ (λ j. other_pair table n q cs a b off j ++ one_pair table (n + length (claimed q cs)) ps lists a b i p (omega (arith, long)) e (λ k r f ne. h (suc k) r f (λ z. ne (omega (arith, z)))) j)
    ∙ ap (λ (k : ℕ). calls_related table k (claimed p (get_or lists i [])) a b) at

length-claimed : (p : Pair) (cs : List Candidate) → length (claimed p cs) ≡ length cs
length-claimed p [] = refl
length-claimed p (c ∷ cs) = ap suc (length-claimed p cs)

-- all of them have numbers below that of all candidates
pub numbers_below : (pairs : List Pair) (lists : List (List Candidate)) (i : ℕ) → length lists ≡ length pairs → i < length pairs → before pairs lists i + length (get_or lists i []) ≤ length (claims_in pairs lists)
numbers_below [] lists i long lt = absurd (omega (arith, lt))
numbers_below (q ∷ ps) [] i long lt = absurd (omega (arith, long))
numbers_below (q ∷ ps) (cs ∷ lists) zero long lt = omega (arith, length-append (claimed q cs) (claims_in ps lists), length-claimed q cs)
numbers_below (q ∷ ps) (cs ∷ lists) (suc i) long lt =
    let more = numbers_below ps lists i (omega (arith, long)) (omega (arith, lt)) in
    omega (arith, more, length-append (claimed q cs) (claims_in ps lists), length-append (claimed q cs) (claims_in (take i ps) (take i lists)))

-- ---- loops

-- one more candidate of the pair of two callees
pub live_split : (table : List Bool) (n next : ℕ) (p : Pair) (cs : List Candidate) (i : ℕ) (c : Candidate) (a b : Site) → p.old ≡ a.callee → p.new ≡ b.callee → i < length cs → c ≡ get_or cs i c → next ≡ n + 1
    → calls_related table n (claimed p (drop i cs)) a b ≡ (if is_live table n then implication (record { pair = p; candidate = c }) a b ∷ [] else []) ++ calls_related table next (claimed p (drop (i + 1) cs)) a b
live_split table n next p cs i c a b olds news lt e more =
    let x : Claimed = record { pair = p; candidate = c } in
    let step : suc n ≡ next = omega (arith, more) in
    let on : (is_live table n && is_about x a b) ≡ is_live table n = ap (λ (r : Bool). is_live table n && r) (is_of-true p a.callee b.callee olds news) ∙ and-true (is_live table n) in
    ap (λ (l : List Candidate). calls_related table n (claimed p l) a b) (drop_split cs i c c lt e)
    ∙ (λ j. (if on j then implication x a b ∷ [] else []) ++ calls_related table (step j) (claimed p (drop (i + 1) cs)) a b)

pub each_split : {A : Type 0} (f : A → Site) (table : List Bool) (xs : List Claimed) (a : Site) (bs : List A) (i : ℕ) (b : A) → i < length bs → b ≡ get_or bs i b
    → with_each table xs a (map f (drop i bs)) ≡ calls_related table 0 xs a (f b) ++ with_each table xs a (map f (drop (i + 1) bs))
each_split {A} f table xs a bs i b lt e = ap (λ (l : List A). with_each table xs a (map f l)) (drop_split bs i b b lt e)

pub all_split : {A : Type 0} (f : A → Site) (table : List Bool) (xs : List Claimed) (as' : List A) (bs : List Site) (i : ℕ) (a : A) → i < length as' → a ≡ get_or as' i a
    → all_related table xs (map f (drop i as')) bs ≡ with_each table xs (f a) bs ++ all_related table xs (map f (drop (i + 1) as')) bs
all_split {A} f table xs as' bs i a lt e = ap (λ (l : List A). all_related table xs (map f l) bs) (drop_split as' i a a lt e)

-- ---- a pair that is found

-- any other pair has another old procedure
only_one : (pairs : List Pair) (tab : List (Option ℕ)) (old new place : ℕ) (p : Pair) → FindsPairs tab pairs → slice_get pairs place ≡ Some p → p.old ≡ old
    → (k : ℕ) (q : Pair) → slice_get pairs k ≡ Some q → (k ≡ place → ⊥) → (b : Bool) → is_of q old new ≡ b → b ≡ false
only_one pairs tab old new place p finds at is k q e other false test = refl
only_one pairs tab old new place p finds at is k q e other true test =
    let olds : q.old ≡ old = eqb-true q.old old (and-left (q.old == old) (q.new == new) test) in
    let here : ◌≡◌ {A = Option ℕ} (Some k) (Some place) = sym (finds k q e) ∙ ap (λ (n : ℕ). get_or tab n None) (olds ∙ sym is) ∙ finds place p at in
    let same : k ≡ place = cc in
    absurd (other same)

pub pair_says : (table : List Bool) (pairs : List Pair) (lists : List (List Candidate)) (tab : List (Option ℕ)) (a b : Site) (place first : ℕ) (p pair : Pair) (candidates : List Candidate)
    → length lists ≡ length pairs → FindsPairs tab pairs → slice_get pairs place ≡ Some p → p.old ≡ a.callee → pair ≡ p → candidates ≡ get_or lists place [] → first ≡ before pairs lists place
    → calls_related table first (claimed pair candidates) a b ≡ calls_related table 0 (claims_in pairs lists) a b
pair_says table pairs lists tab a b place first p pair candidates long finds at is ep ec ef =
    let zero_first : 0 + before pairs lists place ≡ before pairs lists place = omega arith in
    (λ i. calls_related table ((ef ∙ sym zero_first) i) (claimed (ep i) (ec i)) a b)
    ∙ sym (one_pair table 0 pairs lists a b place p long at (λ k q e other. only_one pairs tab a.callee b.callee place p finds at is k q e other (is_of q a.callee b.callee) refl))

pub any_default : {A : Type 0} (xs : List A) (i : ℕ) (d e : A) → i < length xs → get_or xs i d ≡ get_or xs i e
any_default [] i d e lt = absurd (omega (arith, lt))
any_default (x ∷ xs) zero d e lt = refl
any_default (x ∷ xs) (suc i) d e lt = any_default xs i d e (omega (arith, lt))
