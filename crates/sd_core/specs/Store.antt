-- A state: what stands in the slots of the procedure and in the globals. It holds values in a run, and terms in a
-- body's terms.
use Rattle.std.specs.Prelude.{ℕ, List, [], ◌∷◌, map, get_or, set}
use Rattle.sd_core.specs.declared.tree.Spot.{Spot}
use Rattle.sd_core.specs.declared.tree.Spot.TheVariants.{Slot, Global}

pub record Store (A : Type 0) : Type 0 where
  pub slots : List A
  pub globals : List A

-- what stands at a spot, and nothing where there is no such spot
abbrev pub read : {A : Type 0} → A → Store A → Spot → A
read nothing st (Slot i) = get_or st.slots i nothing
read nothing st (Global i) = get_or st.globals i nothing

abbrev pub write : {A : Type 0} → Store A → Spot → A → Store A
write st (Slot i) a = record { slots = set st.slots i a; globals = st.globals }
write st (Global i) a = record { slots = st.slots; globals = set st.globals i a }

-- one after the other
abbrev pub write_all : {A : Type 0} → Store A → List Spot → List A → Store A
write_all st [] new = st
write_all st (s ∷ ss) [] = st
write_all st (s ∷ ss) (a ∷ new) = write_all (write st s a) ss new

abbrev pub map_store : {A B : Type 0} → (A → B) → Store A → Store B
map_store f st = record { slots = map f st.slots; globals = map f st.globals }

-- a list of globals with new contents at some of them
abbrev pub set_all : {A : Type 0} → List A → List ℕ → List A → List A
set_all xs [] new = xs
set_all xs (i ∷ is) [] = xs
set_all xs (i ∷ is) (a ∷ new) = set_all (set xs i a) is new
