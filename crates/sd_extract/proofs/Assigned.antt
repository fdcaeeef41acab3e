-- What typing says of the variables that a body assigns.
use Rattle.std.proofs.Common.{◌≡◌, Bool, true, false, cond, ◌+◌, ◌<◌, List, [], ◌∷◌, ◌++◌, length, Option, None, Some, Ok, option_map, refl, sym, ap, subst, ◌∙◌, ◌⊎◌, inl, inr, ⊎_elim, ℕ, zero, suc, arith}
use Rattle.std.specs.Prelude.{if◌then◌else◌, Contains}
use Rattle.std.specs.List.{AllByRecursion, slice_index_or}
use Rattle.std.proofs.lemmas.Option.{none-some, same_Some}
use Rattle.sd_extract.proofs.SourceWords.{Var, Text, same_text, Program, Nature, Variable, Scope, is_among, and_then, named, or_global, if_named, declared_as, routine, assigned_as, assignable, variables_as, parameters, body_variables, modifies_of, SourceRoutine, globals_in}
use Rattle.sd_extract.proofs.CoreWords.{Source, state_of, index_in, Among}
use Rattle.sd_types.specs.declared.scope.Nature.TheVariants as nature
use Rattle.sd_types.specs.declared.scope.Site.TheVariants as site
use Rattle.sd_types.specs.Statements.{Routine}
use Rattle.sd_extract.specs.Laws.{IsLocal, IsModified, MayAssign}
use Rattle.sd_extract.proofs.FormedLookups.{global_found, is_outer}
use Rattle.sd_extract.proofs.FormedPlaces.{IsScope, outer_named}
use Rattle.sd_extract.proofs.FormedModifies.{unnumbered, modifies_there}
use Rattle.sd_extract.proofs.FormedFrames.{source_at, in_modifies}

-- ---- numbers

pub among_of : (ms : List ℕ) (i : ℕ) → Contains ms i → Among i ms
among_of ms i h = go ms h.0 h.1 h.2
  where
    go : (ns : List ℕ) (k : ℕ) → k < length ns → slice_index_or ns k i ≡ i → Among i ns
    go [] k l e = absurd (omega (arith, l))
    go (n ∷ ns) zero l e = inl (sym e)
    go (n ∷ ns) (suc k) l e = inr (go ns k (omega (arith, l)) e)

pub among_all : (ms ns : List ℕ) → AllByRecursion (Contains ms) ns → (i : ℕ) → Among i ns → Among i ms
among_all ms [] h i a = absurd a
among_all ms (n ∷ ns) h i a =
    ⊎_elim (λ (e : i ≡ n). subst (λ (j : ℕ). Among j ms) (sym e) (among_of ms n h.0)) (among_all ms ns h.1 i) a

-- ---- numbers of variables

-- a declared variable among these has its number, and a name that is none of them has none
numbered : (n : Nature) (vs : List Var) (x : Text) (v : Variable) → named (variables_as n vs) x ≡ Some v → (v.nature ≡ n) × ((k : ℕ) × (index_in vs x ≡ Some k))
numbered n [] x v h = absurd (none-some v h)
numbered n (u ∷ us) x v h = elim (same_text x u.name) as (λ b. cond b (Some (record { sort = u.sort; nature = n })) (named (variables_as n us) x) ≡ Some v → (v.nature ≡ n) × ((k : ℕ) × ((if b then Some 0 else option_map (λ m. suc m) (index_in us x)) ≡ Some k))) [
  | true ↦ λ e. (ap (λ (w : Variable). w.nature) (sym (same_Some _ _ e)), (0, refl))
  | false ↦ λ e. let r = numbered n us x v e in (r.0, (suc r.1.0, ap (option_map (λ m. suc m)) r.1.1))
] h

abbrev first_of : {X : Type 0} → Option X → Option X → Option X
first_of (Some x) o = Some x
first_of None o = o

index_join : (us vs : List Var) (x : Text) → index_in (us ++ vs) x ≡ first_of (index_in us x) (option_map (λ i. length us + i) (index_in vs x))
index_join [] vs x = elim (index_in vs x) as (λ o. o ≡ option_map (λ i. 0 + i) o) [ None ↦ refl | Some i ↦ (let f : i ≡ 0 + i = omega arith in ap Some f) ]
index_join (u ∷ us) vs x = go (same_text x u.name) (index_in us x) (index_in vs x) (index_join us vs x)
  where
    go : (b : Bool) (o p : Option ℕ) → index_in (us ++ vs) x ≡ first_of o (option_map (λ i. length us + i) p)
        → (if b then Some 0 else option_map (λ n. suc n) (index_in (us ++ vs) x)) ≡ first_of (if b then Some 0 else option_map (λ n. suc n) o) (option_map (λ i. suc (length us) + i) p)
    go true o p h = refl
    go false (Some j) p h = ap (option_map (λ n. suc n)) h
    go false None None h = ap (option_map (λ n. suc n)) h
    go false None (Some i) h = ap (option_map (λ n. suc n)) h ∙ (let f : suc (length us + i) ≡ suc (length us) + i = omega arith in ap Some f)

-- ---- assigned variables

named-append : {X : Type 0} (es fs : List (Text × X)) (x : Text) → named (es ++ fs) x ≡ first_of (named es x) (named fs x)
named-append [] fs x = refl
named-append (e ∷ es) fs x = elim (same_text x e.0) as (λ b. cond b (Some e.1) (named (es ++ fs) x) ≡ first_of (cond b (Some e.1) (named es x)) (named fs x)) [ true ↦ refl | false ↦ named-append es fs x ]

module _ (P : Program) (G : Scope) (scope : IsScope P G) (f : Text) (r : SourceRoutine) where
  abbrev S : Source
  S = source_at P f r

  abbrev R : Routine
  R = routine G (body_variables r.head r.body) (modifies_of r.declared.specs)

  locals_found : (x : Text) → named (body_variables r.head r.body) x ≡ first_of (first_of (named (variables_as nature.Input r.head.ins) x) (named (variables_as nature.Output r.head.outs) x)) (named (variables_as nature.Local r.body.locals) x)
  locals_found x =
      named-append (parameters r.head) (variables_as nature.Local r.body.locals) x
      ∙ ap (λ (o : Option Variable). first_of o (named (variables_as nature.Local r.body.locals) x)) (named-append (variables_as nature.Input r.head.ins) (variables_as nature.Output r.head.outs) x)

  refused : (x : Text) (n m : Nature) → n ≡ m → assigned_as R.modifies x n ≡ Ok tt → assigned_as R.modifies x m ≡ Ok tt
  refused x n m e h = subst (λ (k : Nature). assigned_as R.modifies x k ≡ Ok tt) e h

  global_is : (x : Text) (v : Variable) → index_in r.head.ins x ≡ None → index_in (state_of S) x ≡ None → named G.globals x ≡ Some v → assigned_as R.modifies x v.nature ≡ Ok tt → IsModified S x
  global_is x v i l g h =
      let e = outer_named P G scope x v g in
      ⊎_elim
      (λ (n : v.nature ≡ nature.Global). let k = (numbered nature.Global (globals_in P.decls) x v (global_found P.decls x v e n)).1 in
      let allowed = in_modifies x (is_among (modifies_of r.declared.specs) x) tt (refused x v.nature nature.Global n h) in
      record { not_in = i; not_local = l; at = k.0; found = k.1; modified = among_of S.modifies k.0 (modifies_there (globals_in P.decls) r.declared.specs x k.0 k.1 allowed) })
      (λ (n : v.nature ≡ nature.Constant). absurd (let no = refused x v.nature nature.Constant n h in cc))
      (is_outer P.decls x v e)

  may_assign : (x : Text) → assignable R x ≡ Ok tt → IsLocal S x ⊎ IsModified S x
  may_assign x h =
      go (named (variables_as nature.Input r.head.ins) x) (named (variables_as nature.Output r.head.outs) x) (named (variables_as nature.Local r.body.locals) x) (named G.globals x) refl refl refl refl
      (sym (ap (λ (o : Option Variable). and_then (declared_as x (if_named site.Body (or_global o (named G.globals x)))) (λ v. assigned_as R.modifies x v.nature)) (locals_found x)) ∙ h)
    where
      go : (a b c g : Option Variable) → named (variables_as nature.Input r.head.ins) x ≡ a → named (variables_as nature.Output r.head.outs) x ≡ b → named (variables_as nature.Local r.body.locals) x ≡ c → named G.globals x ≡ g → and_then (declared_as x (if_named site.Body (or_global (first_of (first_of a b) c) g))) (λ v. assigned_as R.modifies x v.nature) ≡ Ok tt → IsLocal S x ⊎ IsModified S x
      go (Some v) b c g ea eb ec eg k = absurd (let no = refused x v.nature nature.Input (numbered nature.Input r.head.ins x v ea).0 k in cc)
      go None (Some v) c g ea eb ec eg k =
          let at = (numbered nature.Output r.head.outs x v eb).1 in
          inl (record { not_in = unnumbered nature.Input r.head.ins x ea; at = at.0; found = index_join r.head.outs r.body.locals x ∙ ap (λ o. first_of o (option_map (λ i. length r.head.outs + i) (index_in r.body.locals x))) at.1 })
      go None None (Some v) g ea eb ec eg k =
          let at = (numbered nature.Local r.body.locals x v ec).1 in
          inl (record { not_in = unnumbered nature.Input r.head.ins x ea; at = length r.head.outs + at.0; found = index_join r.head.outs r.body.locals x ∙ (λ i. first_of (unnumbered nature.Output r.head.outs x eb i) (option_map (λ i. length r.head.outs + i) (at.1 i))) })
      go None None None (Some v) ea eb ec eg k =
          inr (global_is x v (unnumbered nature.Input r.head.ins x ea) (index_join r.head.outs r.body.locals x ∙ (λ i. first_of (unnumbered nature.Output r.head.outs x eb i) (option_map (λ i. length r.head.outs + i) (unnumbered nature.Local r.body.locals x ec i)))) eg k)
      go None None None None ea eb ec eg k = absurd (cc)

  pub all_may_assign : (xs : List Text) → AllByRecursion (λ x. assignable R x ≡ Ok tt) xs → MayAssign S xs
  all_may_assign [] h = tt
  all_may_assign (x ∷ xs) h = (may_assign x h.0, all_may_assign xs h.1)
