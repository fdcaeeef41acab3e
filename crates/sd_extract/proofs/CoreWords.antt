-- The words of the core and of extraction that several proof files use.
pub use Rattle.sd_core.specs.Formed.{AllFormed, AllHaveTypes, AreApart, AreSpotsOf, AreTargets, HasType as HasCoreType, IsFormed, IsIndexSort, IsProc, IsSort, Within, copies_of as copies_in, declared_as, names_of, sort_at, sorts_of}
pub use Rattle.sd_core.specs.Formed.{state_sorts}
pub use Rattle.sd_core.specs.Meanings.{HaveSorts}
pub use Rattle.sd_core.specs.Run.{Blocks, Calls, Ended as CoreEnded, Unfinished as CoreUnfinished, End, Goes, Lacks, Step, Stops, end_of, enter, flag_run, is_true, nothing, out_spots, outs_of, receive, run, run_all, slots_from, then_run}
pub use Rattle.sd_core.specs.Run.{value_in}
pub use Rattle.sd_core.specs.Store.{Store, read, set_all, write, write_all}
pub use Rattle.sd_core.specs.declared.CoreExpr.{Apply, At, CoreExpr, Truth as Literal, Op, Row_of-CoreExpr, end_of-CoreExpr, items-the_row-CoreExpr, items_hidden-the_row-CoreExpr-0, more_of-CoreExpr}
pub use Rattle.sd_core.specs.declared.CoreExpr.TheBlock.{hidden-the_row-CoreExpr-0}
pub use Rattle.sd_core.specs.declared.CoreOp.{CoreOp}
pub use Rattle.sd_core.specs.declared.CoreProc.{CoreProc}
pub use Rattle.sd_core.specs.declared.CoreProgram.{CoreProgram}
pub use Rattle.sd_core.specs.declared.CoreStmt.{CoreStmt, If, Row_of-CoreStmt, end_of-CoreStmt, items-the_row-CoreStmt, items_hidden-the_row-CoreStmt-0, more_of-CoreStmt}
pub use Rattle.sd_core.specs.declared.CoreStmt.TheBlock.{hidden-the_row-CoreStmt-0}
pub use Rattle.sd_core.specs.declared.Function.{Function as CoreFunction, Function}
pub use Rattle.sd_core.specs.declared.Spot.{Spot}
pub use Rattle.sd_core.specs.declared.Spot.TheVariants.{Global, Slot}
pub use Rattle.sd_extract.specs.Counted.{has_return_among}
pub use Rattle.sd_extract.specs.Extract.{Counts, Frame, Source, all_args_in, all_extracted, all_lefts_in, all_loops_in, all_stored, arg_vars, args_in, assume, body_copies, body_frame, body_proc, body_start, call_of, check, checked}
pub use Rattle.sd_extract.specs.Extract.{contract, copies_of, core_procs, cores, counts, counts_all, counts_each, each_args_in, each_extracted, each_left_in, each_loop_in, extracted, frame_at, globals_from, has_return, has_returns, hidden}
pub use Rattle.sd_extract.specs.Extract.{index_in, ins_of, kinds, leave, leave_if, left_of, left_slot, lefts_in, loop_call, loop_frame, loop_hidden, loop_proc, loop_start, loop_state, loops_in, modified_names, names_at, new_names, none}
pub use Rattle.sd_extract.specs.Extract.{number_from, of_loop, on_args, plus, procs_from, procs_of, put, routine_procs, size_of, source_of, spot_of, state_of, stored, turn_of, var_in}
pub use Rattle.sd_extract.specs.Laws.{Among, AreFine, AxiomsAreKept, EachFine, Exact, ExtractedIsFormed, IsFine, ProceduresAreKept, RunsAreKept, number_of}
pub use Rattle.sd_extract.specs.Names.{Names, at_place, binary_of, both, core_of, cores_of, either_place, negated, place_in, place_of, unary_of}
pub use Rattle.sd_extract.specs.Places.{item_at}
pub use Rattle.sd_extract.specs.Programs.{axioms_in, constants_named, core_axiom, core_program, functions_in, no_names}
pub use Rattle.sd_extract.specs.Propositional.{AreTruths, IsPropositional}
