-- What extraction keeps of a well-typed program.
use Rattle.std.proofs.Common.{◌≡◌, List, [], ◌∷◌, map, Some, option_map, refl, sym, ap, ◌∙◌}
use Rattle.std.proofs.lemmas.List.{length-map}
use Rattle.sd_extract.proofs.SourceWords.{Text, interpretation, truth_of, Expr, Program, value, Routine, routine_named, globals_in, nowhere, WellTyped}
use Rattle.sd_extract.proofs.CoreWords.{is_true, Source, source_of, body_proc, core_axiom, no_names, axioms_in, number_of, RunsAreKept, ProceduresAreKept, AxiomsAreKept}
use Rattle.sd_core.specs.Run.{nowhere as no_store}
use Rattle.sd_extract.specs.Laws.{ExtractedRuns}
use Rattle.sd_extract.proofs.Expressions.{value_kept}
use Rattle.sd_extract.proofs.Exact.{exact}
use Rattle.sd_extract.proofs.Programs.{program_runs, body_at}
use Rattle.sd_extract.proofs.FormedDeclarations.{is_typed, routine_fine}
use Rattle.sd_extract.proofs.TypedIsFine.{typed_is_fine}

-- ---- runs

pub extracted_runs : ExtractedRuns
extracted_runs P fine M n f d S e is ins globals a b = exact _ _ _ _ _ (program_runs P fine M n f d S e is ins globals a b)

-- a procedure with a body as the source of core procedures
abbrev source : Program → Text → Routine → Source
source P f r = source_of (globals_in P.decls) (number_of P f) r

pub runs_kept : RunsAreKept
runs_kept P w M n f d r e g ins globals a b =
    extracted_runs P (typed_is_fine P w) M n f d (source P f r) e (ap (option_map (source_of (globals_in P.decls) (number_of P f))) g) ins globals a
    (b ∙ sym (length-map (globals_in P.decls) (λ x. x.name)))

-- ---- procedures

pub name_kept : (P : Program) (f : Text) (r : Routine) → WellTyped P → routine_named P f ≡ Some r → r.head.name ≡ f
name_kept P f r w e = let t = is_typed P w in sym (routine_fine P t.0 t.1 f r e).name

pub procedures_kept : ProceduresAreKept
procedures_kept P f r w g = (
  body_proc P (number_of P) (source P f r),
  body_at P (typed_is_fine P w) f (source P f r) (ap (option_map (source_of (globals_in P.decls) (number_of P f))) g),
  name_kept P f r w g,
  refl,
  refl,
  refl,
)

-- ---- axioms

pub axioms_kept : AxiomsAreKept
axioms_kept P M = go (axioms_in P.decls)
  where
    go : (es : List Expr) → map (is_true (interpretation M)) (map core_axiom es) ≡ map (λ e. truth_of (value (interpretation M) nowhere e.kind)) es
    go [] = refl
    go (e ∷ es) =
        let here = ap truth_of (sym (value_kept (interpretation M) no_store no_names nowhere (record { locals = refl; globals = refl; entry = refl }) e.kind)) in
        let rest = go es in
        λ i. here i ∷ rest i
