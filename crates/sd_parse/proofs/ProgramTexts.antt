-- What the parts of a declaration make, each as its reader reads it.
use Rattle.std.proofs.Common.{◌≡◌, ℕ, zero, suc, ◌≤◌, max, true, false, List, [], ◌∷◌, ◌++◌, length, refl, sym, ◌∙◌, subst, arith}
use Rattle.std.specs.Prelude.{Bool, Some, None}
use Rattle.std.proofs.lemmas.List.{append-nil}
use Rattle.sd_base.specs.declared.Sort.{Sort}
use Rattle.sd_base.specs.declared.Sort.TheVariants as sort
use Rattle.sd_base.specs.declared.Place.{Place}
use Rattle.sd_base.specs.declared.Var.{Var}
use Rattle.sd_base.specs.Value.{Text}
use Rattle.sd_lex.specs.declared.Token.{Token}
use Rattle.sd_ast.specs.declared.Expr.{Expr}
use Rattle.sd_ast.specs.declared.Body.{Body}
use Rattle.sd_ast.specs.declared.Head.{Head}
use Rattle.sd_ast.specs.declared.Spec.{Spec}
use Rattle.sd_ast.specs.declared.Spec.TheVariants as spec
use Rattle.sd_ast.specs.declared.Decl.{Decl}
use Rattle.sd_ast.specs.declared.Decl.TheVariants as decl
use Rattle.sd_parse.specs.declared.class.TokenClass.{TokenClass}
use Rattle.sd_parse.specs.declared.class.TokenClass.TheVariants as s
use Rattle.sd_parse.specs.Grammar.{Tokens, Is, IsName}
use Rattle.sd_parse.specs.Rows.{Row, Joined, Enclosed}
use Rattle.sd_parse.specs.Types as ty
use Rattle.sd_parse.specs.Types.{TypeText}
use Rattle.sd_parse.specs.Clauses as c
use Rattle.sd_parse.specs.Clauses.{Attributes, Claim, Clause}
use Rattle.sd_parse.specs.Statements.{Names, Statements}
use Rattle.sd_parse.specs.Programs as p
use Rattle.sd_parse.specs.Programs.{variables, Typed, Vars, VarLine, Parameters, Results, HeadText, SpecText, BodyText, Uniqueness, Argument, ResultType, Declaration}
use Rattle.sd_parse.specs.Reading.{Step, Got, Bad, and_then, ahead, class_of}
use Rattle.sd_parse.specs.ReadingRows.{is, join_lists, names, enclosed}
use Rattle.sd_parse.specs.ReadingRows as reading
use Rattle.sd_parse.specs.ReadingStatements.{statement}
use Rattle.sd_parse.specs.ReadingPrograms.{begins_spec, begins_declaration, modified_by, modified, modifies, uniqueness_by, uniqueness, typed, group, more_groups, vars, var_line, locals, parameters_by, listed_parameters, parameters, results_by, results, head, required, ensured, condition_by, condition, free_condition, clause_by, clause, clauses, body, named_by, after_name, named_argument, argument_by, argument, returned_type, colon_type, result_by, result_type, types, constants, function, axiom_line, globals, declared, defined, procedure_by, procedure_from, procedure, implementation, declaration_by, declaration, declarations, ended, program}
use Rattle.sd_parse.proofs.Texts.{Wanted, wanted, Named, named, Nothing, settle, Both, both}
use Rattle.sd_parse.proofs.Lists as lists
use Rattle.sd_parse.proofs.Lists.{Behind}
use Rattle.sd_parse.proofs.Rows.{Low, Next, next}
use Rattle.sd_parse.proofs.ClauseLaws.{AttributesText}

-- ---- variables

abbrev pub TypedPair : Tokens → List Text × Sort → ℕ → Type 0
TypedPair u x h = Typed u x.0 x.1 h

-- names and their type, as variables
pub data GroupText : Tokens → List Var → ℕ → Type 0 where
  group_text : {u : Tokens} {xs : List Text} {T : Sort} {h : ℕ} → Typed u xs T h → GroupText u (variables xs T) h

vars_one : {u : Tokens} {xs : List Var} {h : ℕ} → GroupText u xs h → Vars u xs h
vars_one (group_text g) = p.one g

vars_more : {k : Token} {u v : Tokens} {xs ys : List Var} {h m : ℕ} → GroupText u xs h → Is s.Comma k → Vars v ys m → Vars (u ++ k ∷ v) (xs ++ ys) (max h m)
vars_more (group_text g) i m = p.more g i m

module _ (d : ℕ) where
  pub to_typed : (u : Tokens) (x : List Text × Sort) → Both Names (λ xs. Both (Wanted s.Colon) (λ _. Both (Low TypeText d) (λ T. Nothing (xs, T)))) u x → Low TypedPair d u x
  to_typed u x (both {u = v} {x = xs} w (both (wanted {t = k} i) (both {u = q} {x = T} y n))) =
      settle n (λ z x. Low TypedPair d (v ++ k ∷ (q ++ z)) x) (subst (λ z. Low TypedPair d (v ++ k ∷ z) (xs, T)) (sym (append-nil q)) (record { height = y.height; spelt = p.typed w i y.spelt; low = y.low }))

  pub to_group : (u : Tokens) (xs : List Var) → Both (Low TypedPair d) (λ g. Nothing (variables g.0 g.1)) u xs → Low GroupText d u xs
  to_group u xs (both {u = v} {x = g} w n) = settle n (λ z xs. Low GroupText d (v ++ z) xs) (subst (λ z. Low GroupText d z (variables g.0 g.1)) (sym (append-nil v)) (record { height = w.height; spelt = group_text w.spelt; low = w.low }))

  vars_of : {u v : Tokens} {xs ys : List Var} → Low GroupText d u xs → lists.Joined (Next (Low GroupText d)) v ys → Low Vars d (u ++ v) (xs ++ ys)
  vars_of {u = u} {xs = xs} g lists.none = subst (λ z. Low Vars d z (xs ++ [])) (sym (append-nil u)) (subst (λ z. Low Vars d u z) (sym (append-nil xs)) (record { height = g.height; spelt = vars_one g.spelt; low = g.low }))
  vars_of g (lists.more (next {u = v} {x = xs} i f) m) = let w = vars_of {u = v} {xs = xs} f m in record { height = max g.height w.height; spelt = vars_more g.spelt i w.spelt; low = let y = g.low in let z = w.low in omega arith }

  pub to_vars : (u : Tokens) (xs : List Var) → Both (Low GroupText d) (λ ys. Behind (lists.Joined (Next (Low GroupText d))) ys) u xs → Low Vars d u xs
  to_vars u xs (both {u = v} {v = w} g m) = subst (λ ys. Low Vars d (v ++ w) ys) (sym m.same) (vars_of g m.list)

  pub to_line : (u : Tokens) (xs : List Var) → Both (Wanted s.Var) (λ _. Both (AttributesText d) (λ _. Both (Low Vars d) (λ ys. Both (Wanted s.Semi) (λ _. Nothing ys)))) u xs → Low (VarLine d) d u xs
  to_line u xs (both (wanted {t = t} i) (both {u = a} l (both {u = v} w (both (wanted {t = k} j) n)))) = settle n (λ z xs. Low (VarLine d) d (t ∷ (a ++ (v ++ k ∷ z))) xs) (record { height = w.height; spelt = p.line i l w.spelt j; low = w.low })

  -- ---- heads

  -- the parameters up to the parenthesis that closes
  pub data Closed : Tokens → List Var → Type 0 where
    empty : {k : Token} → Is s.Close k → Closed (k ∷ []) []
    given : {k : Token} {u : Tokens} {xs : List Var} → Low Vars d u xs → Is s.Close k → Closed (u ++ k ∷ []) xs

  pub to_none : (u : Tokens) (xs : List Var) → Both (Wanted s.Close) (λ _. Nothing []) u xs → Closed u xs
  to_none u xs (both (wanted {t = k} i) n) = settle n (λ z xs. Closed (k ∷ z) xs) (empty i)

  pub to_some : (u : Tokens) (xs : List Var) → Both (Low Vars d) (λ ys. Both (Wanted s.Close) (λ _. Nothing ys)) u xs → Closed u xs
  to_some u xs (both {u = v} w (both (wanted {t = k} i) n)) = settle n (λ z xs. Closed (v ++ k ∷ z) xs) (given w i)

  opened : {o : Token} {u : Tokens} {xs : List Var} → Is s.Open o → Closed u xs → Low Parameters d (o ∷ u) xs
  opened i (empty j) = record { height = 0; spelt = p.none i j; low = omega arith }
  opened i (given w j) = record { height = w.height; spelt = p.some i w.spelt j; low = w.low }

  pub to_parameters : (u : Tokens) (xs : List Var) → Both (Wanted s.Open) (λ _. Closed) u xs → Low Parameters d u xs
  to_parameters u xs (both (wanted i) w) = opened i w

  pub to_results : (u : Tokens) (xs : List Var) → Both (Wanted s.Returns) (λ _. Low Parameters d) u xs → Low Results d u xs
  to_results u xs (both (wanted i) w) = record { height = w.height; spelt = p.some i w.spelt; low = w.low }

  pub to_head : (u : Tokens) (x : Head) → Both Named (λ f. Both (Low Parameters d) (λ ins. Both (Low Results d) (λ outs. Nothing (record { name = f.0; at = f.1; ins = ins; outs = outs })))) u x → Low HeadText d u x
  to_head u x (both (named {t = t} {x = f} i) (both {u = v} {x = ins} w (both {u = q} {x = outs} y n))) =
      settle n (λ z x. Low HeadText d (t ∷ (v ++ (q ++ z))) x)
      (subst (λ z. Low HeadText d (t ∷ (v ++ z)) (record { name = f; at = t.at; ins = ins; outs = outs })) (sym (append-nil q)) (record { height = max w.height y.height; spelt = p.head i w.spelt y.spelt; low = let l = w.low in let m = y.low in omega arith }))

-- ---- clauses

-- the names of a clause, or none
pub data Modified : Tokens → List Text → Type 0 where
  none : Modified [] []
  some : {u : Tokens} {xs : List Text} → Names u xs → Modified u xs

module _ (d : ℕ) where
  modifies_of : {t k : Token} {u : Tokens} {xs : List Text} → Is s.Modifies t → Modified u xs → Is s.Semi k → Low (SpecText d) d (t ∷ (u ++ k ∷ [])) (spec.Modifies xs)
  modifies_of i none j = record { height = 0; spelt = p.modifies_none i j; low = omega arith }
  modifies_of i (some m) j = record { height = 0; spelt = p.modifies i m j; low = omega arith }

  pub to_modifies : (u : Tokens) (x : Spec) → Both (Wanted s.Modifies) (λ _. Both Modified (λ xs. Both (Wanted s.Semi) (λ _. Nothing (spec.Modifies xs)))) u x → Low (SpecText d) d u x
  to_modifies u x (both (wanted {t = t} i) (both {u = v} m (both (wanted {t = k} j) n))) = settle n (λ z x. Low (SpecText d) d (t ∷ (v ++ k ∷ z)) x) (modifies_of i m j)

  -- a clause with an expression, from its own word on
  pub data Condition (f : Bool) : Tokens → Spec → Type 0 where
    of_requires : {u : Tokens} {k : Place × Expr} → Low (Claim d s.Requires) d u k → Condition f u (spec.Requires f k.1)
    of_ensures : {u : Tokens} {k : Place × Expr} → Low (Claim d s.Ensures) d u k → Condition f u (spec.Ensures f k.1)

  pub to_required : (f : Bool) (u : Tokens) (x : Spec) → Both (Low (Claim d s.Requires) d) (λ k. Nothing (spec.Requires f k.1)) u x → Condition f u x
  to_required f u x (both {u = v} {x = k} w n) = settle n (λ z x. Condition f (v ++ z) x) (subst (λ z. Condition f z (spec.Requires f k.1)) (sym (append-nil v)) (of_requires w))

  pub to_ensured : (f : Bool) (u : Tokens) (x : Spec) → Both (Low (Claim d s.Ensures) d) (λ k. Nothing (spec.Ensures f k.1)) u x → Condition f u x
  to_ensured f u x (both {u = v} {x = k} w n) = settle n (λ z x. Condition f (v ++ z) x) (subst (λ z. Condition f z (spec.Ensures f k.1)) (sym (append-nil v)) (of_ensures w))

  free_of : {t : Token} {u : Tokens} {x : Spec} → Is s.Free t → Condition true u x → Low (SpecText d) d (t ∷ u) x
  free_of i (of_requires w) = record { height = w.height; spelt = p.requires (c.free i w.spelt); low = w.low }
  free_of i (of_ensures w) = record { height = w.height; spelt = p.ensures (c.free i w.spelt); low = w.low }

  pub to_free : (u : Tokens) (x : Spec) → Both (Wanted s.Free) (λ _. Condition true) u x → Low (SpecText d) d u x
  to_free u x (both (wanted i) w) = free_of i w

  pub to_checked : (u : Tokens) (x : Spec) → Condition false u x → Low (SpecText d) d u x
  to_checked u x (of_requires w) = record { height = w.height; spelt = p.requires (c.checked w.spelt); low = w.low }
  to_checked u x (of_ensures w) = record { height = w.height; spelt = p.ensures (c.checked w.spelt); low = w.low }

  pub to_body : (u : Tokens) (x : Body) → Both (Wanted s.OpenBrace) (λ _. Both (Low (Joined (VarLine d)) d) (λ xs. Both (Low (Statements d) d) (λ ss. Both (Wanted s.CloseBrace) (λ _. Nothing (record { locals = xs; stmts = ss }))))) u x → Low (BodyText d) d u x
  to_body u x (both (wanted {t = o} i) (both {u = v} w (both {u = q} y (both (wanted {t = k} j) n)))) =
      settle n (λ z x. Low (BodyText d) d (o ∷ (v ++ (q ++ k ∷ z))) x) (record { height = max w.height y.height; spelt = p.braces i w.spelt y.spelt j; low = let l = w.low in let m = y.low in omega arith })

-- ---- constants and functions

pub to_unique : (u : Tokens) (x : Bool) → Both (Wanted s.Unique) (λ _. Nothing true) u x → Uniqueness u x
to_unique u x (both (wanted {t = t} i) n) = settle n (λ z x. Uniqueness (t ∷ z) x) (p.unique i)

-- an argument after its first name
pub data AfterName (d : ℕ) (x : Text) : Tokens → Sort → Type 0 where
  colon : {k : Token} {u : Tokens} {T : Sort} → Is s.Colon k → Low TypeText d u T → AfterName d x (k ∷ u) T
  nothing_more : AfterName d x [] (sort.Named x)

pub to_colon : (d : ℕ) (x : Text) (u : Tokens) (T : Sort) → Both (Wanted s.Colon) (λ _. Low TypeText d) u T → AfterName d x u T
to_colon d x u T (both (wanted i) w) = colon i w

argument_of : {d : ℕ} {t : Token} {x : Text} {u : Tokens} {T : Sort} → 1 ≤ d → IsName x t → AfterName d x u T → Low Argument d (t ∷ u) T
argument_of high i (colon j w) = record { height = w.height; spelt = p.named i j w.spelt; low = w.low }
argument_of high i nothing_more = record { height = 1; spelt = p.bare (ty.named i); low = high }

pub to_argument : (d : ℕ) → 1 ≤ d → (u : Tokens) (T : Sort) → Both Named (λ y. AfterName d y.0) u T → Low Argument d u T
to_argument d high u T (both (named i) w) = argument_of high i w

module _ (d : ℕ) where
  pub to_returned : (u : Tokens) (T : Sort) → Both (Wanted s.Returns) (λ _. Both (Wanted s.Open) (λ _. Both (Low Argument d) (λ T. Both (Wanted s.Close) (λ _. Nothing T)))) u T → Low ResultType d u T
  to_returned u T (both (wanted {t = r} i) (both (wanted {t = o} j) (both {u = v} w (both (wanted {t = k} l) n)))) = settle n (λ z T. Low ResultType d (r ∷ o ∷ (v ++ k ∷ z)) T) (record { height = w.height; spelt = p.returns i j w.spelt l; low = w.low })

  pub to_colon_type : (u : Tokens) (T : Sort) → Both (Wanted s.Colon) (λ _. Low TypeText d) u T → Low ResultType d u T
  to_colon_type u T (both (wanted i) w) = record { height = w.height; spelt = p.colon i w.spelt; low = w.low }

  -- ---- declarations

  pub to_types : (u : Tokens) (x : Decl) → Both (Wanted s.Type) (λ _. Both (AttributesText d) (λ _. Both Names (λ xs. Both (Wanted s.Semi) (λ _. Nothing (decl.Types xs))))) u x → Low (Declaration d) d u x
  to_types u x (both (wanted {t = t} i) (both {u = a} l (both {u = v} m (both (wanted {t = k} j) n)))) = settle n (λ z x. Low (Declaration d) d (t ∷ (a ++ (v ++ k ∷ z))) x) (record { height = 0; spelt = p.types i l m j; low = omega arith })

  pub to_constants : (u : Tokens) (x : Decl) → Both (Wanted s.Const) (λ _. Both (AttributesText d) (λ _. Both Uniqueness (λ b. Both (Low TypedPair d) (λ g. Both (Wanted s.Semi) (λ _. Nothing (decl.Const b g.0 g.1)))))) u x → Low (Declaration d) d u x
  to_constants u x (both (wanted {t = t} i) (both {u = a} l (both {u = v} m (both {u = q} w (both (wanted {t = k} j) n))))) = settle n (λ z x. Low (Declaration d) d (t ∷ (a ++ (v ++ (q ++ k ∷ z)))) x) (record { height = w.height; spelt = p.constants i l m w.spelt j; low = w.low })

  pub to_function : (u : Tokens) (x : Decl)
      → Both (Wanted s.Function) (λ _. Both (AttributesText d) (λ _. Both Named (λ f. Both (Low (Enclosed Argument) d) (λ xs. Both (Low ResultType d) (λ T. Both (Wanted s.Semi) (λ _. Nothing (decl.Function f.0 xs T))))))) u x → Low (Declaration d) d u x
  to_function u x (both (wanted {t = t} i) (both {u = a} l (both (named {t = m} o) (both {u = v} w (both {u = q} y (both (wanted {t = k} j) n)))))) =
      settle n (λ z x. Low (Declaration d) d (t ∷ (a ++ (m ∷ (v ++ (q ++ k ∷ z))))) x) (record { height = max w.height y.height; spelt = p.function i l o w.spelt y.spelt j; low = let z = w.low in let x = y.low in omega arith })

  pub to_axiom : (u : Tokens) (x : Decl) → Both (Low (Claim d s.Axiom) d) (λ k. Nothing (decl.Axiom k.1)) u x → Low (Declaration d) d u x
  to_axiom u x (both {u = v} {x = k} w n) = settle n (λ z x. Low (Declaration d) d (v ++ z) x) (subst (λ z. Low (Declaration d) d z (decl.Axiom k.1)) (sym (append-nil v)) (record { height = w.height; spelt = p.axiom_text w.spelt; low = w.low }))

  pub to_globals : (u : Tokens) (x : Decl) → Both (Low (VarLine d) d) (λ xs. Nothing (decl.Globals xs)) u x → Low (Declaration d) d u x
  to_globals u x (both {u = v} {x = xs} w n) = settle n (λ z x. Low (Declaration d) d (v ++ z) x) (subst (λ z. Low (Declaration d) d z (decl.Globals xs)) (sym (append-nil v)) (record { height = w.height; spelt = p.globals w.spelt; low = w.low }))

  -- a procedure after its head
  pub data ProcedureFrom (f : Head) : Tokens → Decl → Type 0 where
    declared_from : {k : Token} {v : Tokens} {xs : List Spec} → Is s.Semi k → Low (Row (SpecText d)) d v xs → ProcedureFrom f (k ∷ v) (decl.Procedure (record { head = f; specs = xs; body = None }))
    defined_from : {v w : Tokens} {xs : List Spec} {b : Body} → Low (Row (SpecText d)) d v xs → Low (BodyText d) d w b → ProcedureFrom f (v ++ w) (decl.Procedure (record { head = f; specs = xs; body = Some b }))

  pub to_declared : (f : Head) (u : Tokens) (x : Decl) → Both (Wanted s.Semi) (λ _. Both (Low (Row (SpecText d)) d) (λ xs. Nothing (decl.Procedure (record { head = f; specs = xs; body = None })))) u x → ProcedureFrom f u x
  to_declared f u x (both (wanted {t = k} i) (both {u = v} {x = xs} w n)) = settle n (λ z x. ProcedureFrom f (k ∷ (v ++ z)) x) (subst (λ z. ProcedureFrom f (k ∷ z) (decl.Procedure (record { head = f; specs = xs; body = None }))) (sym (append-nil v)) (declared_from i w))

  pub to_defined : (f : Head) (u : Tokens) (x : Decl) → Both (Low (Row (SpecText d)) d) (λ xs. Both (Low (BodyText d) d) (λ b. Nothing (decl.Procedure (record { head = f; specs = xs; body = Some b })))) u x → ProcedureFrom f u x
  to_defined f u x (both {u = v} {x = xs} w (both {u = q} {x = b} y n)) = settle n (λ z x. ProcedureFrom f (v ++ (q ++ z)) x) (subst (λ z. ProcedureFrom f (v ++ z) (decl.Procedure (record { head = f; specs = xs; body = Some b }))) (sym (append-nil q)) (defined_from w y))

  procedure_of : {t : Token} {a u v : Tokens} {f : Head} {x : Decl} → Is s.Procedure t → Attributes d a → Low HeadText d u f → ProcedureFrom f v x → Low (Declaration d) d (t ∷ (a ++ (u ++ v))) x
  procedure_of i l w (declared_from j y) = record { height = max w.height y.height; spelt = p.declared i l w.spelt j y.spelt; low = let m = w.low in let n = y.low in omega arith }
  procedure_of i l w (defined_from y z) = record { height = max w.height (max y.height z.height); spelt = p.defined i l w.spelt y.spelt z.spelt; low = let m = w.low in let n = y.low in let o = z.low in omega arith }

  pub to_procedure : (u : Tokens) (x : Decl) → Both (Wanted s.Procedure) (λ _. Both (AttributesText d) (λ _. Both (Low HeadText d) ProcedureFrom)) u x → Low (Declaration d) d u x
  to_procedure u x (both (wanted i) (both l (both w y))) = procedure_of i l w y

  pub to_implementation : (u : Tokens) (x : Decl) → Both (Wanted s.Implementation) (λ _. Both (AttributesText d) (λ _. Both (Low HeadText d) (λ f. Both (Low (BodyText d) d) (λ b. Nothing (decl.Implementation (record { head = f; body = b })))))) u x → Low (Declaration d) d u x
  to_implementation u x (both (wanted {t = t} i) (both {u = a} l (both {u = v} {x = f} w (both {u = q} {x = b} y n)))) =
      settle n (λ z x. Low (Declaration d) d (t ∷ (a ++ (v ++ (q ++ z)))) x)
      (subst (λ z. Low (Declaration d) d (t ∷ (a ++ (v ++ z))) (decl.Implementation (record { head = f; body = b }))) (sym (append-nil q)) (record { height = max w.height y.height; spelt = p.implementation i l w.spelt y.spelt; low = let m = w.low in let n = y.low in omega arith }))
