-- the terms that may be needed to decide facts
use Rattle.std.specs.Prelude.{◌≡◌, true, Bool, List, Contains}
use Rattle.sd_term.specs.Tree.{Tree, parts_of}
use Rattle.sd_term.specs.Numbering.{numbered, has}
use Rattle.sd_forms.specs.FactRows.{is_int_eq}
use Rattle.sd_cube.specs.Required.{IsChoice, choice_eq, order_of, order_back}

-- The least set that has the terms of the facts and the parts of each of its terms, with a choice its equality with
-- each of the two parts, and with an equality of integers the two orders.
pub data IsNeeded (facts : List Tree) : Tree → Type 0 where
  term : (t : Tree) → has (numbered facts) t ≡ true → IsNeeded facts t
  part : (t p : Tree) → IsNeeded facts t → Contains (parts_of t) p → IsNeeded facts p
  choice : (t : Tree) (b : Bool) → IsNeeded facts t → IsChoice t → IsNeeded facts (choice_eq t b)
  order : (e : Tree) → IsNeeded facts e → is_int_eq e ≡ true → IsNeeded facts (order_of e)
  back : (e : Tree) → IsNeeded facts e → is_int_eq e ≡ true → IsNeeded facts (order_back e)
