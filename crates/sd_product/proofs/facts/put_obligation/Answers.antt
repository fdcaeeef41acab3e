use Rattle.std.proofs.Common.{ℕ, ◌<◌, List, length, sym, ap, subst}
use Rattle.std.specs.Prelude.{IfOk, slice_get, All, map}
use Rattle.sd_term.specs.Tree.{Tree}
use Rattle.sd_term.specs.Bank.{tree_at}
use Rattle.sd_vcgen.specs.Numbers.{DenoteAll, context_of}
use Rattle.sd_product.specs.Query.{query_of}
use Rattle.sd_product.specs.Obligations.{work_in, infallibles_in, candidate_in, AreSidesFor}
use Rattle.sd_product.proofs.FactLemmas.{all_none}
use Rattle.sd_product.proofs.BodyLemmas.{sides_within, query_over, query_without}
use Rattle.sd_product.proofs.facts.put_obligation.Goals as goal

pub put_facts-requires-clause-old : goal.put_facts-requires-clause-old
put_facts-requires-clause-old c =
    let q = c.args.obligation.now in
    let sides = subst (AreSidesFor q c.args.bank.now) c.in-Some.is c.requires.sides in
    (sides_within (context_of q.old) (context_of q.new) c.args.bank.now (slice_get q.old.program.now.procs q.pair.now.old) (slice_get q.new.program.now.procs q.pair.now.new) c.in-Some.sides sides).0

pub put_facts-requires-clause-new : goal.put_facts-requires-clause-new
put_facts-requires-clause-new c =
    let q = c.args.obligation.now in
    let sides = subst (AreSidesFor q c.args.bank.now) c.in-Some.is c.requires.sides in
    (sides_within (context_of q.old) (context_of q.new) c.args.bank.now (slice_get q.old.program.now.procs q.pair.now.old) (slice_get q.new.program.now.procs q.pair.now.new) c.in-Some.sides sides).1

pub returns-in-Some : goal.returns-in-Some
unfolding query_of
returns-in-Some c =
    let q = c.args.obligation.now in
    let sides = subst (AreSidesFor q c.args.bank.now) c.in-Some.is c.requires.sides in
    subst (λ (facts : List Tree). IfOk c.put_facts.result (λ ids. DenoteAll c.put_facts.new.bank ids facts))
    (query_over (work_in q) (infallibles_in q) q.table.now (candidate_in q) c.args.bank.now (slice_get q.old.program.now.procs q.pair.now.old) (slice_get q.new.program.now.procs q.pair.now.new) c.in-Some.sides sides) c.put_facts.ensures

pub returns-in-None : goal.returns-in-None
unfolding query_of
returns-in-None c =
    let q = c.args.obligation.now in
    let sides = subst (AreSidesFor q c.args.bank.now) c.in-None.is c.requires.sides in
    let a = c.args.bank.now in
    subst (DenoteAll a c.new.result)
    (query_without (work_in q) (infallibles_in q) q.table.now (candidate_in q) c.args.bank.now (context_of q.old) (context_of q.new) (slice_get q.old.program.now.procs q.pair.now.old) (slice_get q.new.program.now.procs q.pair.now.new) sides) (record {
      within = subst (All (λ id. id < length a)) (sym c.new.ensures) (all_none (λ id. id < length a));
      trees = ap (λ (l : List ℕ). map (tree_at a) l) c.new.ensures;
    })
