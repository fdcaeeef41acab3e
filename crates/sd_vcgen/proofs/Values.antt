-- The terms of well formed expressions have their values.
use Rattle.std.proofs.Common.{◌≡◌, ℤ, List, [], ◌∷◌, refl, ap, subst, ◌∙◌}
use Rattle.std.specs.Prelude.{Bool, true, false, pos, ◌-ℤ◌, neg_ℤ, map}
use Rattle.std.proofs.Math.IntN.{+ℤ_idl}
use Rattle.sd_base.specs.declared.Sort.{Sort, Int, Bool as BoolSort, Named}
use Rattle.sd_base.specs.Value.{Number, Truth}
use Rattle.sd_base.specs.Sorts.{MapOf, HasSort, value_sort}
use Rattle.sd_base.specs.Cast.{cast}
use Rattle.sd_base.specs.Meaning.{Interpretation, number_of}
use Rattle.sd_core.specs.declared.CoreOp.{CoreOp}
use Rattle.sd_core.specs.declared.CoreOp.TheVariants as op
use Rattle.sd_core.specs.declared.CoreExpr.{CoreExpr, Num, At, Const, Apply', Op', Row_of-CoreExpr, end_of-CoreExpr, more_of-CoreExpr, Truth as Literal}
use Rattle.sd_core.specs.declared.Function.{Function}
use Rattle.sd_core.specs.Store.{Store, map_store}
use Rattle.sd_core.specs.Run.{apply, value_in, values_in}
use Rattle.sd_core.specs.Formed.{Takes, HasType, HaveTypes, AllHaveTypes, declared_as}
use Rattle.sd_core.specs.Formed as formed
use Rattle.sd_core.specs.Meanings.{HaveSorts}
use Rattle.sd_term.specs.declared.node.Head.TheVariants as head
use Rattle.sd_term.specs.Heads.{Read, Write}
use Rattle.sd_term.specs.Tree.{Tree, leaf, tree}
use Rattle.sd_term.specs.Sorts.{sort_of, sort_by, sorts_of}
use Rattle.sd_term.specs.Sorts as sorts
use Rattle.sd_term.specs.Truth.{Valuation, value}
use Rattle.sd_term.specs.Truth as truths
use Rattle.sd_term.proofs.Trees.{head_of-applied, parts_of-applied}
use Rattle.sd_term.proofs.Typed.{value-sorted, read-made, write-made}
use Rattle.sd_term.proofs.BuildValues.{value-by, not-value, and-value, or-value}
use Rattle.sd_vcgen.specs.Body.{constant, nothing, op_term, result_of, term_in, terms_in}
use Rattle.sd_vcgen.specs.Laws.{Reads}
use Rattle.sd_vcgen.proofs.Stores.{read_map}
use Rattle.sd_vcgen.proofs.Typed.{by_one, by_two, by_three, terms-sort}

pub sorted-as : (v : Valuation) (t : Tree) (s : Sort) → sort_of t ≡ s → HasSort s (value v t)
sorted-as v t s e = subst (λ (r : Sort). HasSort r (value v t)) e (value-sorted v t)

negated : (x : ℤ) → pos 0 -ℤ x ≡ neg_ℤ x
negated x = +ℤ_idl (neg_ℤ x)

constant-value : (v : Valuation) (b : Bool) → value v (constant b) ≡ Truth b
constant-value v true = refl
constant-value v false = refl

read-value : (v : Valuation) (x y : Tree) (i s : Sort) → sort_of x ≡ MapOf i s → sort_of y ≡ i → value v (tree Read (x ∷ y ∷ [])) ≡ apply op.Read (value v x ∷ value v y ∷ [])
read-value v x y i s p q =
    ap (λ (r : Sort). truths.apply v Read r (value v x ∷ value v y ∷ [])) (ap value_sort p)
    ∙ read-made v i s (value v x ∷ value v y ∷ []) (sorted-as v x (MapOf i s) p, (sorted-as v y i q, tt))

write-value : (v : Valuation) (x y z : Tree) (i s : Sort) → formed.IsIndexSort i → sort_of x ≡ MapOf i s → sort_of y ≡ i → sort_of z ≡ s → value v (tree Write (x ∷ y ∷ z ∷ [])) ≡ apply op.Write (value v x ∷ value v y ∷ value v z ∷ [])
write-value v x y z i s h p q r =
    ap (λ (t : Sort). truths.apply v Write t (value v x ∷ value v y ∷ value v z ∷ [])) p
    ∙ write-made v i s (value v x ∷ value v y ∷ value v z ∷ []) h (sorted-as v x (MapOf i s) p, (sorted-as v y i q, (sorted-as v z s r, tt)))

abbrev Follows : Valuation → CoreOp → List Tree → Type 0
Follows v o ts = value v (op_term o ts) ≡ apply o (map (value v) ts)

pub operator-value : (v : Valuation) (o : CoreOp) (ts : List Tree) (ss : List Sort) (s : Sort) → map sort_of ts ≡ ss → Takes o ss s → Follows v o ts
operator-value v op.Not ts ss s e t = by_one ts BoolSort (Follows v op.Not) (e ∙ t.0) (λ x p. not-value v x)
operator-value v op.And ts ss s e t = by_two ts BoolSort BoolSort (Follows v op.And) (e ∙ t.0) (λ x y p q. and-value v x y)
operator-value v op.Or ts ss s e t = by_two ts BoolSort BoolSort (Follows v op.Or) (e ∙ t.0) (λ x y p q. or-value v x y)
operator-value v op.Eq ts ss s e t = by_two ts t.0.0 t.0.0 (Follows v op.Eq) (e ∙ t.0.1) (λ x y p q. refl)
operator-value v op.Le ts ss s e t = by_two ts Int Int (Follows v op.Le) (e ∙ t.0) (λ x y p q. refl)
operator-value v op.Add ts ss s e t = by_two ts Int Int (Follows v op.Add) (e ∙ t.0) (λ x y p q. refl)
operator-value v op.Sub ts ss s e t = by_two ts Int Int (Follows v op.Sub) (e ∙ t.0) (λ x y p q. refl)
operator-value v op.Mul ts ss s e t = by_two ts Int Int (Follows v op.Mul) (e ∙ t.0) (λ x y p q. refl)
operator-value v op.Neg ts ss s e t = by_one ts Int (Follows v op.Neg) (e ∙ t.0) (λ x p. ap Number (negated (number_of (value v x))))
operator-value v op.Read ts ss s e t = by_two ts (MapOf t.0 s) t.0 (Follows v op.Read) (e ∙ t.1) (λ x y p q. read-value v x y t.0 s p q)
operator-value v op.Write ts ss s e t = by_three ts (MapOf t.0 t.1) t.0 t.1 (Follows v op.Write) (e ∙ t.3) (λ x y z p q r. write-value v x y z t.0 t.1 t.2 p q r)

pub have-sorts : (v : Valuation) (ts : List Tree) (ss : List Sort) → map sort_of ts ≡ ss → HaveSorts ss (map (value v) ts)
have-sorts v ts ss e = subst (λ (l : List Sort). HaveSorts l (map (value v) ts)) e (go ts)
  where
    go : (us : List Tree) → HaveSorts (map sort_of us) (map (value v) us)
    go [] = refl
    go (u ∷ us) = (value-sorted v u, go us)

-- an application has the cast of what its function gives
application-value : (v : Valuation) (f : List _) (r : Sort) (ts : List Tree) → value v (tree (head.App f r) ts) ≡ cast r (v.by.apply f (map (value v) ts))
application-value v f r ts =
    value-by v (tree (head.App f r) ts) (head.App f r) ts (head_of-applied (leaf (head.App f r)) ts) (parts_of-applied (leaf (head.App f r)) ts)

module _ (F : List Function) (v : Valuation) (I : Interpretation) (reads : Reads F v I) (S : Store Sort) where
  mutual
    pub term-value : (tst : Store Tree) (e : CoreExpr) (s : Sort) → map_store sort_of tst ≡ S → HasType F S e s → value v (term_in F tst e) ≡ value_in I (map_store (value v) tst) e
    term-value tst (Num n) s k h = refl
    term-value tst (Literal b) s k h = constant-value v b
    term-value tst (At p) s k h = read_map (value v) nothing tst p
    term-value tst (Const c) s k h = ap (λ (r : Sort). cast r (v.by.constant c)) (ap result_of h.1) ∙ reads.constants c h.0 h.1
    term-value tst (Apply' f n es) s k h =
        let ts = terms_in F tst es in
        application-value v f (result_of (declared_as false F f)) ts
        ∙ ap (λ (r : Sort). cast r (v.by.apply f (map (value v) ts))) (ap result_of h.1)
        ∙ reads.functions f h.0 (map (value v) ts) h.1 (have-sorts v ts h.0.args (terms-sort F S tst es h.0.args k h.2))
        ∙ ap (I.apply f) (terms-value tst es h.0.args k h.2)
    term-value tst (Op' o n es) s k h =
        operator-value v o (terms_in F tst es) h.0 s (terms-sort F S tst es h.0 k h.1) h.2
        ∙ ap (apply o) (terms-value tst es h.0 k h.1)

    terms-value : (tst : Store Tree) {n : _} (es : Row_of-CoreExpr n) (ss : List Sort) → map_store sort_of tst ≡ S → HaveTypes F S es ss → map (value v) (terms_in F tst es) ≡ values_in I (map_store (value v) tst) es
    terms-value tst end_of-CoreExpr ss k h = refl
    terms-value tst (more_of-CoreExpr e es) [] k h = absurd h
    terms-value tst (more_of-CoreExpr e es) (s ∷ ss) k h = λ i. term-value tst e s k h.0 i ∷ terms-value tst es ss k h.1 i

  pub all-values : (tst : Store Tree) (es : List CoreExpr) (ss : List Sort) → map_store sort_of tst ≡ S → AllHaveTypes F S es ss → map (value v) (map (term_in F tst) es) ≡ map (value_in I (map_store (value v) tst)) es
  all-values tst [] ss k h = refl
  all-values tst (e ∷ es) [] k h = absurd h
  all-values tst (e ∷ es) (s ∷ ss) k h = λ i. term-value tst e s k h.0 i ∷ all-values tst es ss k h.1 i
