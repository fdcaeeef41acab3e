use Rattle.std.proofs.Common.{◌∙◌, sym, ap, subst, drop, ◌+◌, IfOk}
use Rattle.std.specs.Prelude.{false, map}
use Rattle.sd_core.specs.declared.CoreExpr.{CoreExpr}
use Rattle.sd_core.specs.Formed.{declared_as}
use Rattle.sd_term.specs.declared.node.Head.TheVariants as head
use Rattle.sd_term.specs.Tree.{Tree, tree}
use Rattle.sd_term.specs.Bank.{tree_at}
use Rattle.sd_vcgen.specs.Body.{term_in, op_term, result_of}
use Rattle.sd_vcgen.specs.Numbers.{Denotes, store_of}
use Rattle.sd_vcgen.proofs.Numbers.{extends_then, store_later}
use Rattle.sd_vcgen.proofs.Loops.{drop_split, more_within, more_trees}
use Rattle.sd_vcgen.proofs.Rows.{apply_term, operator_term}
use Rattle.sd_vcgen.proofs.expression.+expression.Goals as goal

pub put_expression-returns-in_ok-args-in-Apply-clause-term : goal.put_expression-returns-in_ok-args-in-Apply-clause-term
put_expression-returns-in_ok-args-in-Apply-clause-term t c =
    let F = c.args.functions.now in
    let st = store_of c.args.bank.now c.args.spots.now in
    let h = head.App c.in-Apply.name (result_of (declared_as false F c.in-Apply.name)) in
    subst (λ (u : Tree). IfOk c.put_application.result (λ id. Denotes c.put_application.new.bank id u))
    (ap (λ l. tree h (map (tree_at c.put_expressions.new.bank) l)) c.as_slice-in-Apply.ensures ∙ ap (tree h) (c.in_ok-args-in-Apply.ensures.terms.trees ∙ ap (map (term_in F st)) c.as_slice.ensures) ∙ sym (apply_term F st c.in-Apply.name c.in-Apply.args) ∙ ap (term_in F st) (sym c.in-Apply.is))
    c.put_application.ensures.term

pub put_expression-returns-in_ok-parts-in-Op-clause-term : goal.put_expression-returns-in_ok-parts-in-Op-clause-term
put_expression-returns-in_ok-parts-in-Op-clause-term t c =
    let F = c.args.functions.now in
    let st = store_of c.args.bank.now c.args.spots.now in
    let o = c.in-Op.operator in
    subst (λ (u : Tree). IfOk c.put_operator.result (λ id. Denotes c.put_operator.new.bank id u))
    (ap (λ l. op_term o (map (tree_at c.put_expressions-in-Op.new.bank) l)) c.as_slice-in-Op-2.ensures ∙ ap (op_term o) (c.in_ok-parts-in-Op.ensures.terms.trees ∙ ap (map (term_in F st)) c.as_slice-in-Op.ensures) ∙ sym (operator_term F st o c.in-Op.parts) ∙ ap (term_in F st) (sym c.in-Op.is))
    c.put_operator.ensures.term

pub put_expressions-loop-expression-preserved : goal.put_expressions-loop-expression-preserved
put_expressions-loop-expression-preserved t c =
    let a = c.loop-expression.bank in
    let b = c.put_expression.new.bank in
    let n = c.args.spots.now in
    let i = c.loop-expression.invariant in
    let kept = c.in_ok-term.ensures.kept in
    let F = c.args.functions.now in
    let f : CoreExpr → Tree = term_in F (store_of c.args.bank.now n) in
    let x = c.expression-item.result in
    record {
      terms = more_within a b c.loop-expression.terms c.push.new.self c.in_ok-term.term i.terms.within kept c.in_ok-push.ensures.ok c.in_ok-term.ensures.term.within;
      spots = c.in_ok-term.ensures.spots;
      kept = extends_then c.args.bank.now a b i.kept kept;
      so_far = more_trees a b c.loop-expression.terms c.push.new.self c.in_ok-term.term (f x) (map f (drop (c.loop-expression.expression-index + 1) c.args.expressions.now)) _ _ i.terms.within kept c.in_ok-push.ensures.ok
          (c.in_ok-term.ensures.term.tree ∙ (λ j. term_in F (store_later c.args.bank.now a n i.kept c.requires j) x))
          (ap (map f) (drop_split c.args.expressions.now c.loop-expression.expression-index x x c.loop-expression-test.true c.expression-item.is))
          i.so_far;
    }
