-- Net acres, in units of which a half acre has as many as a whole share.
use Rattle.std.specs.{Prelude.{ℕ, ◌+◌, ◌*◌, ◌/◌, ◌^◌, ◌&&◌, Bool, List, sum_by, unwrap_or, if◌then◌else◌}, Str.{bytes_eq}}
use Rattle.std.specs.String.{string_bytes}
use Rattle.title_instrument.specs.declared.parts.Estate.{Estate}
use Rattle.title_land.specs.{declared.{acres.TheConstants.{TOWNSHIP_HALF_ACRES}, node.Node.{Node}}, Acres.{half_acres_of}, Depth.{depth}}
use Rattle.title_land.specs.Lands.{land_of}
use Rattle.title_plat.specs.{declared.row.Row.{Row}, Parts.{same_estate}}

-- the half acres of a node: those of so many townships for the whole plant
abbrev pub node_half_acres : ℕ → Node → ℕ
node_half_acres townships n = unwrap_or (half_acres_of depth (land_of depth n)) (townships * TOWNSHIP_HALF_ACRES)

-- what a row gives its party: its node's half acres times its share
abbrev pub row_units : ℕ → Row → ℕ
row_units townships row = node_half_acres townships row.node * row.share

-- the row is one of this party and estate
abbrev pub is_of : List ℕ → Estate → Row → Bool
is_of party estate row = same_estate row.estate estate && bytes_eq (string_bytes row.party) party

-- what a row gives this party in this estate
abbrev pub units_given : ℕ → List ℕ → Estate → Row → ℕ
units_given townships party estate row = if is_of party estate row then row_units townships row else 0

-- a party's net acres of an estate: the sum of what the rows give it
abbrev pub net_units : ℕ → List ℕ → Estate → List Row → ℕ
net_units townships party estate rows = sum_by (units_given townships party estate) rows

-- units in ten thousandths of an acre, of which one has 2^33 / 10,000 units, to the nearest, a half up
abbrev pub ten_thousandths : ℕ → ℕ
ten_thousandths units = (units * 10000 + 2 ^ 32) / 2 ^ 33
