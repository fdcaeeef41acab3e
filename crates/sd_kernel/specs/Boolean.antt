-- terms about truth values alone
use Rattle.std.specs.Prelude.{List, [], ◌∷◌}
use Rattle.sd_base.specs.declared.sort.Sort.{Bool as Truth}
use Rattle.sd_term.specs.declared.node.Head.{Head}
use Rattle.sd_term.specs.declared.node.Head.TheVariants.{Sym, Start}
use Rattle.sd_term.specs.Heads.{True, False, Not, And, Or, Eq, Ite}
use Rattle.sd_term.specs.Tree.{Tree, leaf, call, head_of, parts_of}

-- a head of truth values alone: an atom, which is a symbol or a starting value, or a connective
abbrev pub IsBooleanHead : Head → List Tree → Type 0
IsBooleanHead (Sym n Truth) [] = Unit {0}
IsBooleanHead (Start Truth) [] = Unit {0}
IsBooleanHead True ts = Unit {0}
IsBooleanHead False ts = Unit {0}
IsBooleanHead Not ts = Unit {0}
IsBooleanHead And ts = Unit {0}
IsBooleanHead Or ts = Unit {0}
IsBooleanHead Eq ts = Unit {0}
IsBooleanHead Ite ts = Unit {0}
IsBooleanHead _ ts = ⊥

abbrev pub PartsBoolean : Tree → Type 0
PartsBoolean (leaf h) = Unit {0}
PartsBoolean (call f x) = PartsBoolean f × (PartsBoolean x × IsBooleanHead (head_of x) (parts_of x))

abbrev pub IsBoolean : Tree → Type 0
IsBoolean t = PartsBoolean t × IsBooleanHead (head_of t) (parts_of t)

abbrev pub AllBoolean : List Tree → Type 0
AllBoolean [] = Unit {0}
AllBoolean (t ∷ ts) = IsBoolean t × AllBoolean ts
