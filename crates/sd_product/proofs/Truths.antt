-- Relations, conditions and claims as terms are true where they hold of the values.
use Rattle.std.proofs.Common.{◌≡◌, List, [], ◌∷◌, ◌++◌, Option, Some, None, refl, sym, ap, ◌∙◌}
use Rattle.std.specs.Prelude.{Bool, true, false, not, ◌&&◌, ◌||◌, map, slice_get, if◌then◌else◌}
use Rattle.std.proofs.lemmas.List.{map-append}
use Rattle.sd_base.specs.Value.{Value, Number, Truth, Element, Map}
use Rattle.sd_base.specs.Meaning.{truth_of}
use Rattle.sd_core.specs.Store.{Store, read, map_store}
use Rattle.sd_term.specs.declared.build.Kind.{Kind}
use Rattle.sd_term.specs.declared.build.Kind.TheVariants as kind
use Rattle.sd_term.specs.Tree.{Tree}
use Rattle.sd_term.specs.Build.{not_of, or_of, relation_of}
use Rattle.sd_term.specs.Truth.{Valuation, value, MakesTrue}
use Rattle.sd_match.specs.declared.pair.SpotPair.{SpotPair}
use Rattle.sd_vcgen.specs.Body as body
use Rattle.sd_vcgen.specs.Laws.{truth, all_true}
use Rattle.sd_vcgen.proofs.Stores.{read_map}
use Rattle.sd_vcgen.proofs.Truths.{not_truth, or_truth, or_on, first_on, second_on}
use Rattle.sd_cand.specs.declared.candidate.Relation.{Relation}
use Rattle.sd_cand.specs.declared.candidate.Claim.{Claim}
use Rattle.sd_cand.specs.declared.candidate.Claim.TheVariants.{Flag, Output}
use Rattle.sd_product.specs.Relations.{exit, related, related_at, holds_of, all_hold, claim_holds, term_at, term_of, claim_term}
use Rattle.sd_product.specs.Query.{under}

-- ---- truth values

pub split : (C : Type 0) (b : Bool) → (b ≡ true → C) → (b ≡ false → C) → C
split C true x y = x refl
split C false x y = y refl

pub true-value : (x : Value) → truth_of x ≡ true → x ≡ Truth true
true-value (Truth b) h = ap Truth h
true-value (Number a) h = cc
true-value (Element t n) h = cc
true-value (Map d es) h = cc

-- what is under a condition is true where that is false
pub unless-true : (v : Valuation) (g x : Tree) → (truth v g ≡ true → truth v x ≡ true) → truth v (or_of (not_of g) x) ≡ true
unless-true v g x h =
    split (truth v (or_of (not_of g) x) ≡ true) (truth v g)
    (λ on. or_truth v (not_of g) x ∙ ap (λ (b : Bool). truth v (not_of g) || b) (h on) ∙ or_on (truth v (not_of g)) true refl)
    (λ off. or_truth v (not_of g) x ∙ ap (λ (b : Bool). b || truth v x) (not_truth v g ∙ ap not off))

-- ---- relations and claims

relation-truth : (v : Valuation) (k : Kind) (s t : Tree) → truth v (relation_of k s t) ≡ related k (value v s) (value v t)
relation-truth v kind.Eq s t = refl
relation-truth v kind.Le s t = refl
relation-truth v kind.Ge s t = refl
relation-truth v kind.Imp s t = or_truth v (not_of s) t ∙ ap (λ (b : Bool). b || truth v t) (not_truth v s)
relation-truth v kind.Pmi s t = or_truth v (not_of t) s ∙ ap (λ (b : Bool). b || truth v s) (not_truth v t)

term_at-truth : (v : Valuation) (k : Kind) (old new : Store Tree) (o : Option SpotPair) → truth v (term_at k old new o) ≡ related_at k (map_store (value v) old) (map_store (value v) new) o
term_at-truth v k old new None = refl
term_at-truth v k old new (Some s) =
    relation-truth v k (read body.nothing old s.old) (read body.nothing new s.new)
    ∙ (λ i. related k (read_map (value v) body.nothing old s.old i) (read_map (value v) body.nothing new s.new i))

pub term_of-truth : (v : Valuation) (places : List SpotPair) (old new : Store Tree) (r : Relation) → truth v (term_of places old new r) ≡ holds_of places (map_store (value v) old) (map_store (value v) new) r
term_of-truth v places old new r = term_at-truth v r.kind old new (slice_get places r.place)

pub claim-truth : (v : Valuation) (places : List SpotPair) (c : Claim) (old : Store Tree) (f : Tree) (new : Store Tree) (g : Tree) → truth v (claim_term places c old f new g) ≡ claim_holds places c (map_store (value v) old) (truth v f) (map_store (value v) new) (truth v g)
claim-truth v places Flag old f new g = or_truth v (not_of g) f ∙ ap (λ (b : Bool). b || truth v f) (not_truth v g)
claim-truth v places (Output r) old f new g =
    or_truth v (or_of f g) (term_of places old new r) ∙ (λ i. or_truth v f g i || term_of-truth v places old new r i)

-- the values of an end
pub exit-values : (v : Valuation) (ins outs globals : List Tree) → map_store (value v) (exit ins outs globals) ≡ exit (map (value v) ins) (map (value v) outs) (map (value v) globals)
exit-values v ins outs globals = ap (λ (xs : List Value). record { slots = xs; globals = map (value v) globals }) (map-append (value v) ins outs)

-- ---- conditions

pub conditions-true : (v : Valuation) (places : List SpotPair) (old new : Store Tree) (rs : List Relation) → all_hold places (map_store (value v) old) (map_store (value v) new) rs ≡ true → MakesTrue v (map (term_of places old new) rs)
conditions-true v places old new [] h = tt
conditions-true v places old new (r ∷ rs) h =
    let vs : Store Tree → Store Value = map_store (value v) in
    let first = first_on (holds_of places (vs old) (vs new) r) (all_hold places (vs old) (vs new) rs) h in
    let rest = second_on (holds_of places (vs old) (vs new) r) (all_hold places (vs old) (vs new) rs) h in
    (true-value (value v (term_of places old new r)) (term_of-truth v places old new r ∙ first), conditions-true v places old new rs rest)

pub under-true : (v : Valuation) (places : List SpotPair) (old new : Store Tree) (rs : List Relation) (x : Tree) → (all_hold places (map_store (value v) old) (map_store (value v) new) rs ≡ true → truth v x ≡ true) → truth v (under (map (term_of places old new) rs) x) ≡ true
under-true v places old new [] x h = h refl
under-true v places old new (r ∷ rs) x h =
    unless-true v (term_of places old new r) (under (map (term_of places old new) rs) x)
    (λ on. under-true v places old new rs x (λ a. h (λ i. (sym (term_of-truth v places old new r) ∙ on) i && a i)))

-- ---- lists of facts

pub makes-append : (v : Valuation) (xs ys : List Tree) → MakesTrue v xs → MakesTrue v ys → MakesTrue v (xs ++ ys)
makes-append v [] ys h k = k
makes-append v (x ∷ xs) ys h k = (h.0, makes-append v xs ys h.1 k)

pub makes-all : (v : Valuation) (ts : List Tree) → all_true v ts ≡ true → MakesTrue v ts
makes-all v [] h = tt
makes-all v (t ∷ ts) h =
    (true-value (value v t) (first_on (truth v t) (all_true v ts) h), makes-all v ts (second_on (truth v t) (all_true v ts) h))

-- a fact that stands under a test
pub makes-if : (v : Valuation) (b : Bool) (x : Tree) → (b ≡ true → truth v x ≡ true) → MakesTrue v (if b then x ∷ [] else [])
makes-if v true x h = (true-value (value v x) (h refl), tt)
makes-if v false x h = tt
