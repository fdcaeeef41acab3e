-- Unique constants among the terms of facts.
use Rattle.std.proofs.Common.{◌≡◌, ℕ, ◌+◌, ◌<◌, Bool, true, false, cond, List, [], ◌∷◌, ◌++◌, length, drop, get_or, refl, sym, ap, ◌∙◌}
use Rattle.std.specs.Prelude.{◌&&◌, ◌||◌, map, if◌then◌else◌}
use Rattle.std.specs.List.{flat_map}
use Rattle.std.proofs.Math.Bool.{and-true}
use Rattle.sd_base.specs.declared.Var.{Var}
use Rattle.sd_core.specs.Formed.{same_sort}
use Rattle.sd_term.specs.declared.node.Head.{Head}
use Rattle.sd_term.specs.Tree.{Tree, leaf, call, tree, applied, subterms, same_tree, same_tree-true}
use Rattle.sd_term.specs.Build.{not_of, eq_of}
use Rattle.sd_term.specs.Numbering.{has, with_new, numbered}
use Rattle.sd_vcgen.proofs.Loops.{drop_split}
use Rattle.sd_product.specs.Query.{is_constant, any_constant, occurs, constant_term, apart_from, apart}
use Rattle.sd_product.specs.Unique.{present, differ_two, differ_from, differ}

-- ---- tests

-- a term with parts is no constant
applied-call : (c : Var) (f x : Tree) (xs : List Tree) → is_constant c (applied (call f x) xs) ≡ false
applied-call c f x [] = refl
applied-call c f x (y ∷ xs) = applied-call c (call f x) y xs

pub parts_constant : (c : Var) (h : Head) (ts : List Tree) → (ts ≡ [] → ⊥) → is_constant c (tree h ts) ≡ false
parts_constant c h [] some = absurd (some refl)
parts_constant c h (t ∷ ts) some = applied-call c (leaf h) t ts

pub map_none : {A B : Type 0} (f : A → B) (xs : List A) → (xs ≡ [] → ⊥) → map f xs ≡ [] → ⊥
map_none f [] some e = some refl
map_none {A} {B} f (x ∷ xs) some e = let bad : ◌≡◌ {A = List B} (f x ∷ map f xs) [] = e in cc

-- ---- the terms of facts by number

or-assoc : (a b c : Bool) → (a || b) || c ≡ a || (b || c)
or-assoc true b c = refl
or-assoc false b c = refl

pub any-append : (c : Var) (xs ys : List Tree) → any_constant c (xs ++ ys) ≡ (any_constant c xs || any_constant c ys)
any-append c [] ys = refl
any-append c (x ∷ xs) ys = ap (λ (b : Bool). is_constant c x || b) (any-append c xs ys) ∙ sym (or-assoc (is_constant c x) (any_constant c xs) (any_constant c ys))

or-same : (a b : Bool) → (b ≡ true → a ≡ true) → a ≡ (a || b)
or-same true b h = refl
or-same false true h = h refl
or-same false false h = refl

or-true : (a : Bool) → (a || true) ≡ true
or-true true = refl
or-true false = refl

-- one of some terms
has-by : (c : Var) (done : List Tree) (u t : Tree) (b : Bool) → same_tree u t ≡ b → (b || has done t) ≡ true → is_constant c t ≡ true → (has done t ≡ true → any_constant c done ≡ true) → (is_constant c u || any_constant c done) ≡ true
has-by c done u t true is h e more = let same : u ≡ t = same_tree-true u t is in ap (λ (v : Tree). is_constant c v || any_constant c done) same ∙ ap (λ (b : Bool). b || any_constant c done) e
has-by c done u t false is h e more = ap (λ (b : Bool). is_constant c u || b) (more h) ∙ or-true (is_constant c u)

has_constant : (c : Var) (done : List Tree) (t : Tree) → has done t ≡ true → is_constant c t ≡ true → any_constant c done ≡ true
has_constant c [] t h e = h
has_constant c (u ∷ done) t h e = has-by c done u t (same_tree u t) refl h e (λ k. has_constant c done t k e)

or-false : (a : Bool) → (a || false) ≡ a
or-false true = refl
or-false false = refl

new-by : (c : Var) (done : List Tree) (t : Tree) (ts : List Tree) (b : Bool) → has done t ≡ b → ((more : List Tree) → any_constant c (with_new more ts) ≡ (any_constant c more || any_constant c ts))
    → any_constant c (cond b (with_new done ts) (with_new (done ++ t ∷ []) ts)) ≡ (any_constant c done || (is_constant c t || any_constant c ts))
new-by c done t ts true is rest =
    rest done
    ∙ ap (λ (b : Bool). b || any_constant c ts) (or-same (any_constant c done) (is_constant c t) (λ e. has_constant c done t is e))
    ∙ or-assoc (any_constant c done) (is_constant c t) (any_constant c ts)
new-by c done t ts false is rest =
    rest (done ++ t ∷ [])
    ∙ ap (λ (b : Bool). b || any_constant c ts) (any-append c done (t ∷ []) ∙ ap (λ (b : Bool). any_constant c done || b) (or-false (is_constant c t)))
    ∙ or-assoc (any_constant c done) (is_constant c t) (any_constant c ts)

any-new : (c : Var) (done ts : List Tree) → any_constant c (with_new done ts) ≡ (any_constant c done || any_constant c ts)
any-new c done [] = sym (or-false (any_constant c done))
any-new c done (t ∷ ts) = new-by c done t ts (has done t) refl (λ more. any-new c more ts)

any-facts : (c : Var) (facts : List Tree) → any_constant c (flat_map subterms facts) ≡ occurs facts c
any-facts c [] = refl
any-facts c (t ∷ ts) = any-append c (subterms t) (flat_map subterms ts) ∙ ap (λ (b : Bool). any_constant c (subterms t) || b) (any-facts c ts)

pub any-numbered : (c : Var) (facts : List Tree) → any_constant c (numbered facts) ≡ occurs facts c
any-numbered c facts = any-new c [] (flat_map subterms facts) ∙ any-facts c facts

-- ---- that they differ

and-false : (b : Bool) → (b && false) ≡ false
and-false true = refl
and-false false = refl

absent_from : (facts : List Tree) (c : Var) (cs : List Var) → occurs facts c ≡ false → apart_from facts c cs ≡ []
absent_from facts c [] e = refl
absent_from facts c (d ∷ ds) e =
    let t = not_of (eq_of (constant_term c) (constant_term d)) in
    let off : (same_sort c.sort d.sort && (occurs facts c && occurs facts d)) ≡ false = ap (λ (b : Bool). same_sort c.sort d.sort && (b && occurs facts d)) e ∙ and-false (same_sort c.sort d.sort) in
    λ i. (if off i then t ∷ [] else []) ++ absent_from facts c ds e i

from-by : (terms facts : List Tree) (c d : Var) (ds : List Var) → any_constant d terms ≡ occurs facts d → occurs facts c ≡ true → differ_from (constant_term c) (present terms ds) ≡ apart_from facts c ds
    → (r : Bool) → occurs facts d ≡ r → differ_from (constant_term c) (present terms (d ∷ ds)) ≡ apart_from facts c (d ∷ ds)
from-by terms facts c d ds same e rest true is =
    let t = not_of (eq_of (constant_term c) (constant_term d)) in
    let sorts = same_sort c.sort d.sort in
    let test : (sorts && (occurs facts c && occurs facts d)) ≡ sorts = ap (λ (b : Bool). sorts && b) (λ i. e i && is i) ∙ and-true sorts in
    ap (λ (b : Bool). differ_from (constant_term c) ((if b then constant_term d ∷ [] else []) ++ present terms ds)) (same ∙ is)
    ∙ (λ i. (if sym test i then t ∷ [] else []) ++ rest i)
from-by terms facts c d ds same e rest false is =
    let t = not_of (eq_of (constant_term c) (constant_term d)) in
    let sorts = same_sort c.sort d.sort in
    let test : (sorts && (occurs facts c && occurs facts d)) ≡ false = ap (λ (b : Bool). sorts && (occurs facts c && b)) is ∙ ap (λ (b : Bool). sorts && b) (and-false (occurs facts c)) ∙ and-false sorts in
    ap (λ (b : Bool). differ_from (constant_term c) ((if b then constant_term d ∷ [] else []) ++ present terms ds)) (same ∙ is)
    ∙ rest
    ∙ ap (λ (b : Bool). (if b then t ∷ [] else []) ++ apart_from facts c ds) (sym test)

present_from : (terms facts : List Tree) → ((c : Var) → any_constant c terms ≡ occurs facts c) → (c : Var) (cs : List Var) → occurs facts c ≡ true → differ_from (constant_term c) (present terms cs) ≡ apart_from facts c cs
present_from terms facts same c [] e = refl
present_from terms facts same c (d ∷ ds) e = from-by terms facts c d ds (same d) e (present_from terms facts same c ds e) (occurs facts d) refl

differ-by : (terms facts : List Tree) → ((c : Var) → any_constant c terms ≡ occurs facts c) → (c : Var) (cs : List Var) → differ (present terms cs) ≡ apart facts cs → (r : Bool) → occurs facts c ≡ r → differ (present terms (c ∷ cs)) ≡ apart facts (c ∷ cs)
differ-by terms facts same c cs rest true is =
    ap (λ (b : Bool). differ ((if b then constant_term c ∷ [] else []) ++ present terms cs)) (same c ∙ is)
    ∙ (λ i. present_from terms facts same c cs is i ++ rest i)
differ-by terms facts same c cs rest false is =
    ap (λ (b : Bool). differ ((if b then constant_term c ∷ [] else []) ++ present terms cs)) (same c ∙ is)
    ∙ rest
    ∙ ap (λ (l : List Tree). l ++ apart facts cs) (sym (absent_from facts c cs is))

pub differ_is : (terms facts : List Tree) → ((c : Var) → any_constant c terms ≡ occurs facts c) → (cs : List Var) → differ (present terms cs) ≡ apart facts cs
differ_is terms facts same [] = refl
differ_is terms facts same (c ∷ cs) = differ-by terms facts same c cs (differ_is terms facts same cs) (occurs facts c) refl

-- ---- loops

pub any_split : (c : Var) (ts : List Tree) (i : ℕ) (d : Tree) → i < length ts → any_constant c (drop i ts) ≡ (is_constant c (get_or ts i d) || any_constant c (drop (i + 1) ts))
any_split c ts i d lt = ap (any_constant c) (drop_split ts i (get_or ts i d) d lt refl)

pub present_split : (terms : List Tree) (cs : List Var) (i : ℕ) (c : Var) → i < length cs → c ≡ get_or cs i c → present terms (drop i cs) ≡ (if any_constant c terms then constant_term c ∷ [] else []) ++ present terms (drop (i + 1) cs)
present_split terms cs i c lt e = ap (present terms) (drop_split cs i c c lt e)

pub from_split : {A : Type 0} (f : A → Tree) (t : Tree) (xs : List A) (i : ℕ) (x : A) → i < length xs → x ≡ get_or xs i x → differ_from t (map f (drop i xs)) ≡ differ_two t (f x) ++ differ_from t (map f (drop (i + 1) xs))
from_split {A} f t xs i x lt e = ap (λ (l : List A). differ_from t (map f l)) (drop_split xs i x x lt e)

pub differ_split : {A : Type 0} (f : A → Tree) (xs : List A) (i : ℕ) (x : A) → i < length xs → x ≡ get_or xs i x → differ (map f (drop i xs)) ≡ differ_from (f x) (map f (drop (i + 1) xs)) ++ differ (map f (drop (i + 1) xs))
differ_split {A} f xs i x lt e = ap (λ (l : List A). differ (map f l)) (drop_split xs i x x lt e)
