-- In a well-typed text each implementation has its procedure.
use Rattle.std.proofs.Common.{◌≡◌, Bool, true, false, List, [], ◌∷◌, ◌++◌, is_some, Result, Ok, Err, refl, sym, ap, ◌∙◌, subst, inl, inr, arith}
use Rattle.std.specs.Prelude.{◌⊎◌, if◌then◌else◌}
use Rattle.sd_base.specs.Value.{Text}
use Rattle.sd_ast.specs.declared.tree.Decl.{Decl}
use Rattle.sd_ast.specs.declared.tree.Decl.TheVariants.{Types, Const, Function, Axiom, Globals, Procedure, Implementation}
use Rattle.sd_types.specs.declared.refusal.TypeError.{TypeError}
use Rattle.sd_types.specs.declared.refusal.TypeError.TheVariants.{Twice}
use Rattle.sd_types.specs.declared.scope.Nature.TheVariants as nature
use Rattle.sd_types.specs.declared.scope.Scope.{Scope}
use Rattle.sd_types.specs.Names.{is_among, HaveSame}
use Rattle.sd_types.specs.Answer.{and_then, Answers}
use Rattle.sd_types.specs.Tables.{named, with_names, with_entry, with_entries}
use Rattle.sd_types.specs.Declarations.{variables_as, constants_of, callee_of, locals_of, own_names, with_body, with_implementation, procedure_names, enter_implementation, enter, enter_of, enter_all, enter_all_of}
use Rattle.sd_types.specs.TypedBodies.{HaveTypedBodies}
use Rattle.sd_types.proofs.TypingLemmas.{parts, ok_is}

-- ---- which procedures are found

entry-found : {X : Type 0} (es all : List (Text × X)) (x : Text) (v : X) → with_entry es x v ≡ Ok all → (f : Text) → is_some (named all f) ≡ true → (is_some (named es f) ≡ true) ⊎ (is_among (x ∷ []) f ≡ true)
entry-found {X} es all x v h f s = added (is_some (named es x)) h
  where
    last : (l : List (Text × X)) → is_some (named (l ++ (x, v) ∷ []) f) ≡ true → (is_some (named l f) ≡ true) ⊎ (is_among (x ∷ []) f ≡ true)
    last [] t = grind arith
    last (e ∷ l) t = grind (arith, last l)

    added : (b : Bool) → (if b then Err (Twice x) else Ok (es ++ (x, v) ∷ [])) ≡ Ok all → (is_some (named es f) ≡ true) ⊎ (is_among (x ∷ []) f ≡ true)
    added true k = absurd (cc)
    added false k = last es (ap (λ (l : List (Text × X)). is_some (named l f)) (ok_is k) ∙ s)

module _ (declared : Text → Bool) (f : Text) where
  abbrev Found : Scope → Type 0
  Found G = is_some (named G.procedures f) ≡ true

  found-one : (d : Decl) (G K : Scope) → enter_of declared G d ≡ Ok K → Found K → Found G ⊎ (is_among (procedure_names (d ∷ [])) f ≡ true)
  found-one (Types names) G K h s =
      let j = parts (with_names G.types names) (λ ts. Ok (record G { types = ts })) K h in inl (ap (λ (X : Scope). is_some (named X.procedures f)) (ok_is j.2) ∙ s)
  found-one (Const unique names t) G K h s =
      let j = parts (with_entries G.globals (constants_of t names)) (λ es. Ok (record G { globals = es })) K h in inl (ap (λ (X : Scope). is_some (named X.procedures f)) (ok_is j.2) ∙ s)
  found-one (Function g args r) G K h s =
      let j = parts (with_entry G.functions g (record { args = args; result = r })) (λ es. Ok (record G { functions = es })) K h in inl (ap (λ (X : Scope). is_some (named X.procedures f)) (ok_is j.2) ∙ s)
  found-one (Axiom e) G K h s = inl (ap (λ (X : Scope). is_some (named X.procedures f)) (ok_is h) ∙ s)
  found-one (Globals vars) G K h s =
      let j = parts (with_entries G.globals (variables_as nature.Global vars)) (λ es. Ok (record G { globals = es })) K h in inl (ap (λ (X : Scope). is_some (named X.procedures f)) (ok_is j.2) ∙ s)
  found-one (Procedure p) G K h s =
      let j = parts (with_entry G.procedures p.head.name (callee_of p)) (λ ps. and_then (with_body G.bodies p.head.name p.body) (λ bs. and_then (own_names p.head (locals_of p.body)) (λ _. Ok (record G { procedures = ps; bodies = bs })))) K h in
      let l = parts (with_body G.bodies p.head.name p.body) (λ bs. and_then (own_names p.head (locals_of p.body)) (λ _. Ok (record G { procedures = j.0; bodies = bs }))) K j.2 in
      let m = parts (own_names p.head (locals_of p.body)) (λ _. Ok (record G { procedures = j.0; bodies = l.0 })) K l.2 in
      entry-found G.procedures j.0 p.head.name (callee_of p) j.1 f (ap (λ (X : Scope). is_some (named X.procedures f)) (ok_is m.2) ∙ s)
  found-one (Implementation i) G K h s =
      let l = parts (with_implementation (declared i.head.name) G.bodies i.head.name) (λ bs. and_then (own_names i.head i.body.locals) (λ _. Ok (record G { bodies = bs }))) K h in
      let m = parts (own_names i.head i.body.locals) (λ _. Ok (record G { bodies = l.0 })) K l.2 in
      inl (ap (λ (X : Scope). is_some (named X.procedures f)) (ok_is m.2) ∙ s)

  found-rest : (d : Decl) (ds : List Decl) → (is_among (procedure_names (d ∷ [])) f ≡ true) ⊎ (is_among (procedure_names ds) f ≡ true) → is_among (procedure_names (d ∷ ds)) f ≡ true
  found-rest (Procedure p) ds (inl t) = grind arith
  found-rest (Procedure p) ds (inr t) = grind arith
  found-rest _ ds (inl t) = absurd (cc)
  found-rest _ ds (inr t) = t

  found-among : (ds : List Decl) (G H : Scope) → enter_all_of declared G ds ≡ Ok H → Found H → Found G ⊎ (is_among (procedure_names ds) f ≡ true)
  found-among [] G H h s = inl (ap (λ (X : Scope). is_some (named X.procedures f)) (ok_is h) ∙ s)
  found-among (d ∷ ds) G H h s =
      let k = parts (enter_of declared G d) (λ X. enter_all_of declared X ds) H h in
      elim (found-among ds k.0 H k.2 s) [
        | inl t ↦ elim (found-one d G k.0 k.1 t) [ inl u ↦ inl u | inr u ↦ inr (found-rest d ds (inl u)) ]
        | inr t ↦ inr (found-rest d ds (inr t))
      ]

-- ---- all bodies count

abbrev pub HaveProcedures : (Text → Bool) → List Decl → Type 0
HaveProcedures declared [] = Unit {0}
HaveProcedures declared (Implementation i ∷ ds) = (declared i.head.name ≡ true) × HaveProcedures declared ds
HaveProcedures declared (_ ∷ ds) = HaveProcedures declared ds

pub bodies-count : (declared : Text → Bool) (ds : List Decl) (G : Scope) → HaveProcedures declared ds → enter_all_of declared G ds ≡ enter_all G ds
bodies-count declared [] G h = refl
bodies-count declared (Implementation i ∷ ds) G h =
    ap (λ b. and_then (and_then (with_implementation b G.bodies i.head.name) (λ bs. and_then (own_names i.head i.body.locals) (λ _. Ok (record G { bodies = bs })))) (λ H. enter_all_of declared H ds)) h.0
    ∙ (λ k. and_then (enter_implementation G i) (λ H. bodies-count declared ds H h.1 k))
bodies-count declared (d ∷ ds) G h = λ k. and_then (enter G d) (λ H. bodies-count declared ds H h k)

have-procedures : (G : Scope) (declared : Text → Bool) → ((f : Text) → is_some (named G.procedures f) ≡ true → declared f ≡ true) → (ds : List Decl) → HaveTypedBodies G ds → HaveProcedures declared ds
have-procedures G declared h [] t = tt
have-procedures G declared h (Implementation i ∷ ds) t = (h i.head.name (ap is_some t.0.1), have-procedures G declared h ds t.1)
have-procedures G declared h (_ ∷ ds) t = have-procedures G declared h ds t.1

-- in a well-typed text every body counts
pub entered-all : (ds : List Decl) (nothing G : Scope) → nothing.procedures ≡ [] → enter_all_of (is_among (procedure_names ds)) nothing ds ≡ Ok G → HaveTypedBodies G ds → enter_all nothing ds ≡ Ok G
entered-all ds nothing G e h t =
    let declared = is_among (procedure_names ds) in
    sym (bodies-count declared ds nothing (have-procedures G declared (λ f s.
    elim (found-among declared f ds nothing G h s) [
      | inl u ↦ absurd (let v = sym u ∙ ap (λ (l : List _). is_some (named l f)) e in cc)
      | inr u ↦ u
    ]) ds t)) ∙ h

-- a set of these names will do
pub of-set : (set names : List Text) (G : Scope) (ds : List Decl) {r : Result Scope TypeError} → names ≡ procedure_names ds → HaveSame set names → Answers (enter_all_of (is_among set) G ds) r → Answers (enter_all_of (is_among (procedure_names ds)) G ds) r
of-set set names G ds {r} e h k =
    subst (λ (declared : Text → Bool). Answers (enter_all_of declared G ds) r) ((λ i x. h x i) ∙ ap is_among e) k
