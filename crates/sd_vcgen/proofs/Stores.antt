-- States of any kind: what maps, reads and writes have to do with each other.
use Rattle.std.proofs.Common.{◌≡◌, ℕ, zero, suc, List, [], ◌∷◌, get_or, refl, sym, ap}
use Rattle.std.specs.Prelude.{None, map, slice_get}
use Rattle.std.proofs.Math.ListN.{get_or-map}
use Rattle.std.proofs.lemmas.List.{map-set, set-get_or}
use Rattle.sd_core.specs.declared.Spot.{Spot}
use Rattle.sd_core.specs.declared.Spot.TheVariants.{Slot, Global}
use Rattle.sd_core.specs.Store.{Store, read, write, map_store}

pub read_map : {A B : Type 0} (f : A → B) (nothing : A) (st : Store A) (s : Spot) → f (read nothing st s) ≡ read (f nothing) (map_store f st) s
read_map f nothing st (Slot i) = sym (get_or-map f st.slots i nothing)
read_map f nothing st (Global i) = sym (get_or-map f st.globals i nothing)

pub write_map : {A B : Type 0} (f : A → B) (st : Store A) (s : Spot) (a : A) → map_store f (write st s a) ≡ write (map_store f st) s (f a)
write_map f st (Slot i) a = ap (λ (xs : List _). record { slots = xs; globals = map f st.globals }) (map-set f st.slots i a)
write_map f st (Global i) a = ap (λ (xs : List _). record { slots = map f st.slots; globals = xs }) (map-set f st.globals i a)

-- what stands there already
pub write_read : {A : Type 0} (nothing : A) (st : Store A) (s : Spot) → write st s (read nothing st s) ≡ st
write_read nothing st (Slot i) = ap (λ (xs : List _). record { slots = xs; globals = st.globals }) (set-get_or st.slots i nothing)
write_read nothing st (Global i) = ap (λ (xs : List _). record { slots = st.slots; globals = xs }) (set-get_or st.globals i nothing)
