-- A well-typed program has what its extraction needs.
use Rattle.std.proofs.Common.{◌≡◌, Bool, true, false, List, [], ◌∷◌, ◌++◌, length, Option, Some, option_map, refl, sym, ap, subst, ◌∙◌}
use Rattle.std.specs.List.{IsDistinct}
use Rattle.std.proofs.lemmas.List.{length-map, map-append}
use Rattle.std.proofs.lemmas.Option.{same_Some}
use Rattle.sd_extract.proofs.SourceWords.{Text, same_text, Program, Expr, StmtKind, Assign, Call, If', While', Break, Row_of-Stmt, end_of-Stmt, more_of-Stmt, names_of, Routine, routine_named, globals_in, Callee, Scope, routine, left_names, modifies_of, body_variables, WellTyped, Calls, IsTypedStmt, AreTypedStmts}
use Rattle.sd_extract.proofs.CoreWords.{Source, source_of, number_from, body_proc, Among, IsFine, AreFine, EachFine}
use Rattle.sd_types.specs.Statements.{Routine as Rules}
use Rattle.sd_extract.specs.Laws.{Setting, CallFine, SourceFine, modified_by, setting_of, ProgramFine}
use Rattle.sd_extract.proofs.Assigned.{among_all, all_may_assign}
use Rattle.sd_extract.proofs.FormedChecks.{IsCallable, IsChecked, AreChecked, EachChecked, EachTyped}
use Rattle.sd_extract.proofs.FormedDeclarations.{IsTyped, is_typed, is_scope, RoutineFine, routine_fine}
use Rattle.sd_extract.proofs.FormedStatements.{have_length}
use Rattle.sd_extract.proofs.FormedFrames.{source_at, callee_at}
use Rattle.sd_extract.proofs.Programs.{of_source}

module _ (P : Program) (G : Scope) (typed : IsTyped P G) where
  module _ (f : Text) (r : Routine) (is : routine_named P f ≡ Some r) where
    abbrev T : Setting
    T = setting_of P

    abbrev S : Source
    S = source_at P f r

    abbrev R : Rules
    R = routine G (body_variables r.head r.body) (modifies_of r.declared.specs)

    call_fine : (xs : List Text) (g : Text) (es : List Expr) → Calls R xs g es → IsCallable R xs g → CallFine T S xs g es
    call_fine xs g es h c =
        let k = callee_at P G typed (body_proc P (number_from P 0 P.decls) S) (body_variables r.head r.body) r.declared.specs refl g c.callee c.found c.has_body c.modifies in
        let as_callee : length h.0.ins ≡ length c.callee.ins = ap (λ (q : Callee). length q.ins) (same_Some _ _ (sym h.1 ∙ c.found)) in
        let source = ap (option_map (source_of (globals_in P.decls) (number_from P 0 P.decls g))) k.is_routine in
        record {
          callee = k.declared;
          source = source_at P g k.routine;
          declared = k.is_declared;
          is_source = source;
          arity = have_length R.context es h.0.ins h.3 ∙ as_callee ∙ ap length (sym k.ins) ∙ length-map k.declared.head.ins (λ x. x.sort);
          receivers = all_may_assign P G (is_scope P G typed) f r xs c.receivers.1;
          modifies = λ i a. among_all S.modifies (source_at P g k.routine).modifies k.own_modifies i (subst (λ (o : Option Source). Among i (modified_by o)) source a);
        }

    mutual
      stmt_fine : (b : Bool) (s : StmtKind) → IsTypedStmt R b s → IsChecked R s → IsFine T S b s
      stmt_fine b (Assign ls es) h c = all_may_assign P G (is_scope P G typed) f r (left_names ls) c.1
      stmt_fine b (Call xs g es) h c = call_fine xs g es h c
      stmt_fine b (If' e shape x shape' y) h c = (row_fine b x h.1 c.0, row_fine b y h.2 c.1)
      stmt_fine b (While' e invs shape body) h c = row_fine true body h.2 c
      stmt_fine b Break h c = h
      stmt_fine b _ h c = tt

      row_fine : (b : Bool) {n : _} (ks : Row_of-Stmt n) → AreTypedStmts R b ks → AreChecked R ks → AreFine T S b ks
      row_fine b end_of-Stmt h c = tt
      row_fine b (more_of-Stmt p k ks) h c = (stmt_fine b k h.0 c.0, row_fine b ks h.1 c.1)

    each_fine : (b : Bool) (ks : List StmtKind) → EachTyped R b ks → EachChecked R ks → EachFine T S b ks
    each_fine b [] h c = tt
    each_fine b (k ∷ ks) h c = (stmt_fine b k h.0 c.0, each_fine b ks h.1 c.1)

    source_fine : SourceFine T S
    source_fine =
        let fine : RoutineFine G f r = routine_fine P G typed f r is in
        record {
          declared_ins = sym (length-map r.declared.head.ins (λ x. x.sort)) ∙ ap length (sym fine.ins_sorts) ∙ length-map r.head.ins (λ x. x.sort);
          own = subst (λ (l : List Text). IsDistinct same_text (names_of r.head.ins ++ l)) (sym (map-append (λ x. x.name) r.head.outs r.body.locals)) fine.own;
          stmts = each_fine false _ fine.typed fine.checked;
        }

  pub program_fine : ProgramFine P
  program_fine = record { sources = λ f. of_source P f (SourceFine (setting_of P)) (source_fine f) }

pub typed_is_fine : (P : Program) → WellTyped P → ProgramFine P
typed_is_fine P w = let t = is_typed P w in program_fine P t.0 t.1
