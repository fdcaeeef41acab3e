-- The facts about two programs over truth values are over truth values.
use Rattle.std.proofs.Common.{◌≡◌, ℕ, ◌+◌, List, [], ◌∷◌, ◌++◌, length, sym, subst}
use Rattle.std.specs.Prelude.{Bool, true, Option, Some, None, map, slice_get}
use Rattle.std.specs.List.{AllByRecursion}
use Rattle.sd_base.proofs.Lists.{all-at}
use Rattle.sd_base.specs.declared.Var.{Var}
use Rattle.sd_core.specs.declared.CoreExpr.{CoreExpr}
use Rattle.sd_core.specs.declared.CoreProc.{CoreProc}
use Rattle.sd_core.specs.declared.CoreProgram.{CoreProgram}
use Rattle.sd_core.specs.declared.Function.{Function}
use Rattle.sd_core.specs.Store.{Store, read}
use Rattle.sd_core.specs.Run.{out_spots}
use Rattle.sd_core.specs.Formed.{WellFormed, sorts_of}
use Rattle.sd_core.specs.Boolean.{IsBooleanProc, IsBooleanCore}
use Rattle.sd_term.specs.declared.build.Kind.{Kind}
use Rattle.sd_term.specs.declared.build.Kind.TheVariants as kind
use Rattle.sd_term.specs.Tree.{Tree}
use Rattle.sd_term.specs.Build.{not_of, or_of}
use Rattle.sd_match.specs.declared.pair.SpotPair.{SpotPair}
use Rattle.sd_cand.specs.declared.candidate.Relation.{Relation}
use Rattle.sd_cand.specs.declared.candidate.Claim.{Claim}
use Rattle.sd_cand.specs.declared.candidate.Claim.TheVariants.{Flag, Output}
use Rattle.sd_kernel.specs.Boolean.{IsBoolean, AllBoolean}
use Rattle.sd_kernel.proofs.Propositions.{not-boolean, or-boolean}
use Rattle.sd_vcgen.specs.Body.{Context, nothing, term_in, body_of, outs_of}
use Rattle.sd_product.specs.Relations.{exit, term_at, term_of, claim_term}
use Rattle.sd_product.specs.Query.{Claimed, Work, inputs_from, Side, side_from, all_related, no_terms, axioms_of, apart, conditions_of, claim_of, premises_of, facts_of}
use Rattle.sd_product.proofs.Booleans.{constant-boolean, eq-boolean, implies-boolean, append-boolean, truth-sorts, symbols-boolean, BooleanStore, read-boolean, reads-boolean, BooleanState, body-boolean}
use Rattle.sd_product.proofs.OnlyEqual.{IsEqual, IsEqualClaim, IsEqualClaimed}

-- ---- relations

exit-boolean : (ins outs globals : List Tree) → AllBoolean ins → AllBoolean outs → AllBoolean globals → BooleanStore (exit ins outs globals)
exit-boolean ins outs globals h k l = record { slots = append-boolean ins outs h k; globals = l }

term-boolean : (places : List SpotPair) (old new : Store Tree) (r : Relation) → IsEqual r → BooleanStore old → BooleanStore new → IsBoolean (term_of places old new r)
term-boolean places old new r e h k = subst (λ (t : Kind). IsBoolean (term_at t old new (slice_get places r.place))) (sym e) (go (slice_get places r.place))
  where
    go : (o : Option SpotPair) → IsBoolean (term_at kind.Eq old new o)
    go None = constant-boolean true
    go (Some s) = eq-boolean (read nothing old s.old) (read nothing new s.new) (read-boolean old s.old h) (read-boolean new s.new k)

terms-boolean : (places : List SpotPair) (old new : Store Tree) (rs : List Relation) → AllByRecursion IsEqual rs → BooleanStore old → BooleanStore new → AllBoolean (map (term_of places old new) rs)
terms-boolean places old new [] e h k = tt
terms-boolean places old new (r ∷ rs) e h k = (term-boolean places old new r e.0 h k, terms-boolean places old new rs e.1 h k)

claim-boolean : (places : List SpotPair) (c : Claim) (old : Store Tree) (f : Tree) (new : Store Tree) (g : Tree) → IsEqualClaim c → BooleanStore old → IsBoolean f → BooleanStore new → IsBoolean g → IsBoolean (claim_term places c old f new g)
claim-boolean places Flag old f new g e h p k q = implies-boolean g f q p
claim-boolean places (Output r) old f new g e h p k q = or-boolean (or_of f g) (term_of places old new r) (or-boolean f g p q) (term-boolean places old new r e h k)

-- ---- calls

-- ---- sides

-- a side over truth values
pub record BooleanSide (a : Side) : Type 0 where
  pub inputs : BooleanStore a.inputs
  pub body : BooleanState a.body
  pub ends : BooleanStore a.ends

inputs-boolean : (k : ℕ) (P : CoreProgram) (p : CoreProc) → IsBooleanCore P → IsBooleanProc p → BooleanStore (inputs_from k P p)
inputs-boolean k P p truths own = record {
  slots = symbols-boolean k (sorts_of p.ins) (truth-sorts p.ins own.ins);
  globals = symbols-boolean (k + length p.ins) (sorts_of P.globals) (truth-sorts P.globals truths.globals);
}

pub side-boolean : (C : Context) (q : ℕ) (p : CoreProc) → WellFormed C.program → IsBooleanCore C.program → slice_get C.program.procs q ≡ Some p → (i k : ℕ) → BooleanSide (side_from C p i k)
side-boolean C q p formed truths found i k =
    let inputs = inputs_from i C.program p in
    let s = body_of C p k inputs.slots inputs.globals in
    let own : IsBooleanProc p = all-at IsBooleanProc C.program.procs q p truths.procs found in
    let begin : BooleanStore inputs = inputs-boolean i C.program p truths own in
    let end : BooleanState s = body-boolean C p truths own (formed.procs q p found).body k inputs.slots inputs.globals begin.slots begin.globals in
    record {
      inputs = begin;
      body = end;
      ends = exit-boolean inputs.slots (outs_of p s) s.store.globals begin.slots (reads-boolean s.store (out_spots p) end.store) end.store.globals;
    }

-- ---- facts

axioms-boolean : (F : List Function) (es : List CoreExpr) → es ≡ [] → AllBoolean (map (term_in F no_terms) es)
axioms-boolean F [] none = tt
axioms-boolean F (e ∷ es) none = absurd (cc)

apart-boolean : (facts : List Tree) (cs : List Var) → cs ≡ [] → AllBoolean (apart facts cs)
apart-boolean facts [] none = tt
apart-boolean facts (c ∷ cs) none = absurd (cc)

module _ (w : Work) (table : List Bool) (old : IsBooleanCore w.old) (new : IsBooleanCore w.new) where
  premises-boolean : (x : Claimed) (a b : Side) → IsEqualClaimed x → BooleanSide a → BooleanSide b → AllBoolean (all_related table w.claims a.body.sites b.body.sites) → AllBoolean (premises_of w table x a b)
  premises-boolean x a b e h k calls =
      let related = all_related table w.claims a.body.sites b.body.sites in
      let assumed : AllBoolean (b.body.assumes ++ related) = append-boolean b.body.assumes related k.body.assumes calls in
      let bodies : AllBoolean (a.body.assumes ++ (b.body.assumes ++ related)) = append-boolean a.body.assumes (b.body.assumes ++ related) h.body.assumes assumed in
      let conditions : AllBoolean (conditions_of x a b) = terms-boolean x.pair.inputs a.inputs b.inputs x.candidate.when e.when h.inputs k.inputs in
      let rest = append-boolean (conditions_of x a b) (a.body.assumes ++ (b.body.assumes ++ related)) conditions bodies in
      append-boolean (axioms_of w.old) _ (axioms-boolean w.old.functions w.old.axioms old.axioms) (append-boolean (axioms_of w.new) _ (axioms-boolean w.new.functions w.new.axioms new.axioms) rest)

  -- where what is known of both calls is over truth values
  pub facts-boolean : (x : Claimed) (a b : Side) → IsEqualClaimed x → BooleanSide a → BooleanSide b → AllBoolean (all_related table w.claims a.body.sites b.body.sites) → AllBoolean (facts_of w table x a b)
  facts-boolean x a b e h k calls =
      let claim : IsBoolean (claim_of x a b) = claim-boolean x.pair.outputs x.candidate.claim a.ends a.body.flag b.ends b.body.flag e.claim h.ends h.body.flag k.ends k.body.flag in
      let all = premises_of w table x a b ++ claim_of x a b ∷ [] in
      let last : AllBoolean (not_of (claim_of x a b) ∷ []) = (not-boolean (claim_of x a b) claim, tt) in
      append-boolean (premises_of w table x a b) _ (premises-boolean x a b e h k calls)
      (append-boolean (apart all w.old.uniques) _ (apart-boolean all w.old.uniques old.uniques)
      (append-boolean (apart all w.new.uniques) (not_of (claim_of x a b) ∷ []) (apart-boolean all w.new.uniques new.uniques) last))
