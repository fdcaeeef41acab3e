use Rattle.std.proofs.Common.{rules, pos, drop, ◌≡◌, [], ◌∙◌, unsigned_abs, get_or, subst, ℕ}
use Rattle.std.specs.Int.{IsGcd}
use Rattle.std.proofs.lemmas.List.{drop_all}
use Rattle.sd_rows.specs.Rows.{Parts}
use Rattle.sd_rows.proofs.Greatest.{Gathers, gathers-at, gathered}
use Rattle.sd_rows.proofs.divisor.divisor_of.Goals as goal

pub loop-p-preserved : goal.loop-p-preserved
loop-p-preserved c =
    let e : c.unsigned_abs.result ≡ unsigned_abs (get_or c.args.parts.now c.loop-p.p-index (0, pos 0)).1 = search rules in
    gathers-at c.loop-p.divisor c.gcd-divisor.result c.loop-p.p-index c.args.parts.now c.args.parts.now (0, pos 0) c.loop-p-test.true
    (subst (λ (n : ℕ). IsGcd c.loop-p.divisor n c.gcd-divisor.result) e c.gcd-divisor.ensures) c.loop-p.invariant

pub returns-clause-value : goal.returns-clause-value
returns-clause-value c =
    let e : drop c.loop-p.p-index c.args.parts.now ≡ [] = drop_all c.loop-p.p-index c.args.parts.now c.loop-p-test.false in
    let g : Gathers c.loop-p.divisor [] c.args.parts.now = subst (λ (l : Parts). Gathers c.loop-p.divisor l c.args.parts.now) e c.loop-p.invariant in
    c.max.ensures ∙ gathered c.loop-p.divisor c.args.parts.now c.requires.proper g
