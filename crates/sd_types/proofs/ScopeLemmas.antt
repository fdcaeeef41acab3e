-- Phrases are judged alike over tables in which names stand for the same.
use Rattle.std.proofs.Common.{◌≡◌, ℕ, suc, ◌+◌, ◌<◌, Bool, true, false, cond, List, [], ◌∷◌, ◌++◌, Option, None, Some, Result, refl, sym, ap, ◌∙◌, subst, drop, take, get_or, length, append_assoc, arith}
use Rattle.std.specs.Prelude.{◌↔◌, ◌&&◌, IsTrue}
use Rattle.std.proofs.lemmas.List.{take_more}
use Rattle.sd_base.specs.Value.{Text, same_text}
use Rattle.sd_base.specs.Sorts.{same_sort}
use Rattle.sd_base.specs.declared.sort.Sort.{Sort}
use Rattle.sd_base.specs.declared.sort.Var.{Var}
use Rattle.sd_ast.specs.declared.tree.Head.{Head}
use Rattle.sd_ast.specs.declared.tree.Body.{Body}
use Rattle.sd_ast.specs.declared.tree.Spec.{Spec}
use Rattle.sd_ast.specs.declared.tree.Spec.TheVariants.{Modifies, Requires, Ensures}
use Rattle.sd_types.specs.declared.refusal.TypeError.{TypeError}
use Rattle.sd_types.specs.declared.scope.Nature.{Nature}
use Rattle.sd_types.specs.declared.scope.Nature.TheVariants as nature
use Rattle.sd_types.specs.declared.scope.Site.{Site}
use Rattle.sd_types.specs.declared.scope.Site.TheVariants as site
use Rattle.sd_types.specs.declared.scope.Variable.{Variable}
use Rattle.sd_types.specs.declared.scope.Scope.{Scope}
use Rattle.sd_types.specs.Answer.{Answers, each}
use Rattle.sd_types.specs.Names.{HaveSame}
use Rattle.sd_types.specs.Tables.{named, FindSame}
use Rattle.sd_types.specs.Scopes.{context, if_named, or_global, has_old}
use Rattle.sd_types.specs.Phrases.{is_truth}
use Rattle.sd_types.specs.Statements.{routine, each_stmt}
use Rattle.sd_types.specs.Declarations.{variables_as, parameters, body_variables, spec_rule, body_stmts_rule, have_sorts}
use Rattle.sd_types.proofs.AnswerLemmas.{drop-at}
use Rattle.sd_base.proofs.SortLemmas.{same_sort-test}

-- ---- tables

abbrev or_first : {X : Type 0} → Option X → Option X → Option X
or_first None o = o
or_first (Some x) o = Some x

named-append : {X : Type 0} (es fs : List (Text × X)) (x : Text) → named (es ++ fs) x ≡ or_first (named es x) (named fs x)
named-append [] fs x = refl
named-append (e ∷ es) fs x = go (same_text x e.0) (named-append es fs x)
  where
    go : (b : Bool) → named (es ++ fs) x ≡ or_first (named es x) (named fs x) → cond b (Some e.1) (named (es ++ fs) x) ≡ or_first (cond b (Some e.1) (named es x)) (named fs x)
    go true h = refl
    go false h = h

same-append : {X : Type 0} (es es' fs : List (Text × X)) → FindSame es es' → FindSame (es ++ fs) (es' ++ fs)
same-append es es' fs h x = named-append es fs x ∙ ap (λ o. or_first o (named fs x)) (h x) ∙ sym (named-append es' fs x)

pub found-after : {X : Type 0} (t u : List (Text × X)) (es fs : List (Text × X)) → FindSame u (t ++ fs) → FindSame t es → FindSame u (es ++ fs)
found-after t u es fs h k x = h x ∙ same-append t es fs k x

variables_as-append : (n : Nature) (xs ys : List Var) → variables_as n (xs ++ ys) ≡ variables_as n xs ++ variables_as n ys
variables_as-append n [] ys = refl
variables_as-append n (x ∷ xs) ys = ap (λ (l : List (Text × Variable)). (x.name, record { sort = x.sort; nature = n }) ∷ l) (variables_as-append n xs ys)

take-next : {A : Type 0} (xs : List A) (i : ℕ) (x : A) → i < length xs → x ≡ get_or xs i x → take (i + 1) xs ≡ take i xs ++ x ∷ []
take-next xs i x h e = take_more xs i x h ∙ ap (λ y. take i xs ++ y ∷ []) (sym e)

pub variables-step : (n : Nature) (start t u : List (Text × Variable)) (vars : List Var) (i : ℕ) (x : Var) (s : Sort) → i < length vars → x ≡ get_or vars i x → s ≡ x.sort → FindSame t (start ++ variables_as n (take i vars)) → FindSame u (t ++ (x.name, record { sort = s; nature = n }) ∷ []) → FindSame u (start ++ variables_as n (take (i + 1) vars))
variables-step n start t u vars i x s within at e h k =
    let one : List (Text × Variable) = (x.name, record { sort = x.sort; nature = n }) ∷ [] in
    let j : FindSame u (t ++ one) = subst (λ (z : Sort). FindSame u (t ++ (x.name, record { sort = z; nature = n }) ∷ [])) e k in
    subst (FindSame u)
    (append_assoc start (variables_as n (take i vars)) one ∙ ap (λ (l : List (Text × Variable)). start ++ l) (sym (ap (variables_as n) (take-next vars i x within at) ∙ variables_as-append n (take i vars) (x ∷ []))))
    (found-after t u (start ++ variables_as n (take i vars)) one j h)

pub body_variables-found : (h : Head) (b : Body) (t u : List (Text × Variable)) → FindSame t (parameters h) → FindSame u (t ++ variables_as nature.Local b.locals) → FindSame u (body_variables h b)
body_variables-found h b t u k j = found-after t u (parameters h) (variables_as nature.Local b.locals) j k

pub parameters-found : (h : Head) (start t u : List (Text × Variable)) → start ≡ [] → FindSame t (start ++ variables_as nature.Input h.ins) → FindSame u (t ++ variables_as nature.Output h.outs) → FindSame u (parameters h)
parameters-found h start t u e k j =
    found-after t u (variables_as nature.Input h.ins) (variables_as nature.Output h.outs) j
    (subst (λ (l : List (Text × Variable)). FindSame t (l ++ variables_as nature.Input h.ins)) e k)

-- ---- what phrases see

same_context : (G : Scope) (t u : List (Text × Variable)) (at : Site) → FindSame t u → context G t at ≡ context G u at
same_context G t u at h = λ i. record { variable = λ x. if_named at (or_global (h x i) (named G.globals x)); function = named G.functions; old = has_old at }

same_spec : (G : Scope) (t u : List (Text × Variable)) → FindSame t u → (s : Spec) → spec_rule G t s ≡ spec_rule G u s
same_spec G t u h (Modifies names) = refl
same_spec G t u h (Requires free e) = ap (λ C. is_truth C e) (same_context G t u site.Requires h)
same_spec G t u h (Ensures free e) = ap (λ C. is_truth C e) (same_context G t u site.Ensures h)

pub same_specs : (G : Scope) (t u : List (Text × Variable)) (specs : List Spec) {r : Result (Unit {0}) TypeError} → FindSame t u → Answers (each (spec_rule G t) specs) r → Answers (each (spec_rule G u) specs) r
same_specs G t u specs {r} h k = subst (λ (f : Spec → Result (Unit {0}) TypeError). Answers (each f specs) r) (λ i s. same_spec G t u h s i) k

pub same_stmts : (G : Scope) (h : Head) (b : Body) (t : List (Text × Variable)) (set modifies : List Text) {r : Result (Unit {0}) TypeError} → FindSame t (body_variables h b) → HaveSame set modifies → Answers (each_stmt (routine G t set) false b.stmts) r → Answers (body_stmts_rule G h modifies b) r
same_stmts G h b t set modifies {r} f s k =
    subst (λ R. Answers (each_stmt R false b.stmts) r)
    (λ i. record { scope = G; context = same_context G t (body_variables h b) site.Body f i; modifies = λ x. s x i }) k

-- ---- types of variables

have_sorts-length : (ss : List Sort) (xs : List Var) → have_sorts ss xs ≡ true → length ss ≡ length xs
have_sorts-length [] [] h = refl
have_sorts-length (s ∷ ss) (x ∷ xs) h = ap suc (have_sorts-length ss xs (second (same_sort s x.sort) (have_sorts ss xs) h))
  where
    second : (p q : Bool) → (p && q) ≡ true → q ≡ true
    second true q k = k
    second false q k = absurd (cc)
have_sorts-length [] (x ∷ xs) h = absurd (cc)
have_sorts-length (s ∷ ss) [] h = absurd (cc)

pub not_as_many : (ss : List Sort) (xs : List Var) → (length ss ≡ length xs → ⊥) → false ≡ have_sorts ss xs
not_as_many ss xs n = go (have_sorts ss xs) refl
  where
    go : (b : Bool) → have_sorts ss xs ≡ b → false ≡ b
    go true h = absurd (n (have_sorts-length ss xs h))
    go false h = refl

module _ (ss : List Sort) (xs : List Var) (i : ℕ) (s : Sort) (x : Var) (r : Bool) (test : IsTrue r ↔ (s ≡ x.sort)) (as_many : length ss ≡ length xs) (within : i < length xs) (at : x ≡ get_or xs i x) (found : s ≡ get_or ss i s) (walks : have_sorts ss xs ≡ have_sorts (drop i ss) (drop i xs)) where
  opened : have_sorts ss xs ≡ (r && have_sorts (drop (i + 1) ss) (drop (i + 1) xs))
  opened =
      walks ∙ ap (λ l. have_sorts l (drop i xs)) (drop-at ss i s (omega arith) found) ∙ ap (have_sorts (s ∷ drop (i + 1) ss)) (drop-at xs i x within at)
      ∙ ap (λ b. b && have_sorts (drop (i + 1) ss) (drop (i + 1) xs)) (sym (same_sort-test s x.sort r test))

  pub have_sorts-step : r ≡ true → have_sorts ss xs ≡ have_sorts (drop (i + 1) ss) (drop (i + 1) xs)
  have_sorts-step h = opened ∙ ap (λ b. b && have_sorts (drop (i + 1) ss) (drop (i + 1) xs)) h

  pub have_sorts-stop : r ≡ false → false ≡ have_sorts ss xs
  have_sorts-stop h = sym (opened ∙ ap (λ b. b && have_sorts (drop (i + 1) ss) (drop (i + 1) xs)) h)
