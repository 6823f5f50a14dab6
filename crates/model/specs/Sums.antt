-- When what two meshes did can be added up.
use Rattle.std.specs.Prelude.{◌+◌, ◌<◌}
use Rattle.model.specs.declared.Meshed.{Meshed}

-- the sums fit their numbers, of 32 bits
abbrev pub CanAdd : Meshed → Meshed → Type 0
CanAdd a b = (a.merges + b.merges < 4294967296) × (a.bytes + b.bytes < 4294967296)
