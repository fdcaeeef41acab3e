use Rattle.std.proofs.Common.{◌≡◌, true, cond, sym, ap, ◌∙◌, subst}
use Rattle.sd_base.specs.declared.Place.{Place}
use Rattle.sd_parse.specs.Grammar.{Tokens}
use Rattle.sd_parse.specs.TokenClasses.{same_class}
use Rattle.sd_parse.specs.Reading.{Gives, Step, Syntax, skip, bad, want, ahead, class_of}
use Rattle.sd_parse.proofs.cursor.Cursor.want.Goals as goal

pub returns-then-same_class : goal.returns-then-same_class
unfolding want
returns-then-same_class c =
    let e : same_class (class_of (ahead c.args.self.now)) c.args.wanted ≡ true = ap (λ x. same_class x c.args.wanted) (sym c.peek.ensures) ∙ sym c.same_class.ensures ∙ c.if-same_class.true in
    subst (λ b. Gives (cond {A = Tokens → Step Place} b skip (bad Syntax) c.args.self.now) c.skip.result c.skip.new.self) (sym e) c.skip.ensures
