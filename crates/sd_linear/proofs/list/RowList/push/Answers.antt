use Rattle.std.proofs.Common.{rules, ◌≡◌, ◌++◌, ◌∷◌, [], None, Some, true, length, subst}
use Rattle.std.specs.Prelude.{is_some}
use Rattle.std.specs.List.{position}
use Rattle.std.specs.HashMap.{UpdatesBy}
use Rattle.sd_linear.proofs.Lists.{fits_in}
use Rattle.sd_linear.proofs.FirstPlaces.{same_left, found-new, found-again}
use Rattle.sd_linear.proofs.list.RowList.push.Goals as goal
use Rattle.sd_linear.proofs.list.RowList.push.Goals.{then-is_none+in_ok-left+in_ok-insert, else-is_none}

pub invariant_of-self-3 : goal.invariant_of-self-3
invariant_of-self-3 c =
    let e : c.push.new.self.items ≡ c.if-is_none.self-inside.rows.items ++ c.args.derived ∷ [] = search rules in
    elim c.if-is_none.branch [
      | then-is_none+in_ok-left+in_ok-insert w ↦
          let n : position (fits_in c.args.derived) c.self.inside.rows.items ≡ None = search rules in
          let k : w.in_ok-left.left.items ≡ c.args.derived.row.parts = search rules in
          let l : w.len.result ≡ length c.self.inside.rows.items = search rules in
          let u : UpdatesBy same_left (same_left w.in_ok-left.left) c.self.inside.places w.insert.new.self (Some (length c.self.inside.rows.items)) =
          subst (λ i. UpdatesBy same_left (same_left w.in_ok-left.left) c.self.inside.places w.insert.new.self (Some i)) l w.in_ok-insert.ensures.updates in
          rw (e, w.self-inside-is, c.reserve.ensures.items) (found-new c.self.inside.places w.insert.new.self c.self.inside.rows.items c.args.derived w.in_ok-left.left k n u c.self.invariant)
      | else-is_none w ↦
          let s : is_some (position (fits_in c.args.derived) c.self.inside.rows.items) ≡ true = search rules in
          rw (e, w.self-inside-is, c.reserve.ensures.items) (found-again c.self.inside.places c.self.inside.rows.items c.args.derived s c.self.invariant)
    ]
