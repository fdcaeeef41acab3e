use Rattle.std.proofs.Common.{◌≡◌, ◌-◌, suc, subst, arith}
use Rattle.sd_parse.specs.Reading.{Gives}
use Rattle.sd_parse.specs.ReadingTypes.{type_of}
use Rattle.sd_parse.proofs.types.+type_of.Goals as goal

pub returns-then-depth-eq0 : goal.returns-then-depth-eq0
returns-then-depth-eq0 t c =
    let e : 0 ≡ c.args.depth = omega arith in
    subst (λ n. Gives (type_of n c.args.tokens.now) c.none.result c.none.new.tokens) e c.none.ensures

pub returns : goal.returns
unfolding type_of
returns t c =
    let e : suc (c.args.depth - 1) ≡ c.args.depth = omega arith in
    subst (λ n. Gives (type_of n c.args.tokens.now) c.layer.result c.layer.new.tokens) e c.layer.ensures
