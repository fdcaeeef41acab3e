use Rattle.std.proofs.Common.{◌≡◌, ℕ, Option, Some, None, set, get_or, refl, ◌∙◌}
use Rattle.sd_euf.proofs.TableLemmas.{table-skip, table-more}
use Rattle.sd_euf.proofs.table.LeftTable.add.Goals as goal

pub returns-in_default : goal.returns-in_default
returns-in_default c =
    table-skip c.args.terms.now c.args.self.now (record { last = c.args.self.now.last; earlier = c.push.new.self }) c.args.id c.requires.table refl c.in_ok-push.ensures.ok c.in_default.ensures.none

pub returns : goal.returns
returns c =
    let at : c.number-first.result ≡ c.in-Some.left = c.number-first.ensures in
    let o : Option ℕ = get_or c.as_slice.result.now c.number-first.result None in
    let is : o ≡ get_or c.args.self.now.last c.in-Some.left None = (λ i. get_or (c.as_slice.ensures i) (at i) None) in
    let written : c.set.new.self ≡ set c.args.self.now.last c.in-Some.left (Some c.args.id) = c.set.ensures ∙ (λ i. set c.args.self.now.last (at i) (Some (c.number.ensures i))) in
    table-more c.args.terms.now c.args.self.now (record { last = c.set.new.self; earlier = c.push-2.new.self }) c.args.id c.requires.table c.in-Some.left o
    c.requires.distinct c.in-Some.ensures.below c.in-Some.ensures.some is written c.in_ok-push-2.ensures.ok
