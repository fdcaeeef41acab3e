-- Each phrase has a height of 1 at least.
use Rattle.std.proofs.Common.{ℕ, ◌≤◌, arith}
use Rattle.sd_base.specs.declared.Place.{Place}
use Rattle.sd_ast.specs.declared.Expr.{Expr}
use Rattle.sd_parse.specs.Grammar as g
use Rattle.sd_parse.specs.Grammar.{Tokens, Level, Phrase}

pub positive_height : {l : Level} {u : Tokens} {e : Expr} {h : ℕ} {p : Place} → Phrase l u e h p → 1 ≤ h
positive_height (g.atom p) = positive_height p
positive_height (g.postfix p) = positive_height p
positive_height (g.only o p) = positive_height p
positive_height (g.sum p) = positive_height p
positive_height (g.all p) = positive_height p
positive_height (g.any p) = positive_height p
positive_height (g.last p) = positive_height p
positive_height (g.implies p) = positive_height p
positive_height (g.explied p) = positive_height p
positive_height _ = omega arith
