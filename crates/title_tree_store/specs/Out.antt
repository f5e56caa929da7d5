-- The images that are out of a store.
use Rattle.std.specs.{Prelude.{◌+◌, ◌<◌, ◌^◌, List}, VecDeque.{deque_len, deque_capacity}}
use Rattle.title_tree_store.specs.{declared.lent.{Lent.{Lent}, Images.{Images}}, Slots.{filled}}

-- in the order of their numbers
abbrev pub images : Images → List Lent
images x = filled x.slots.items

-- one more image fits without memory
abbrev pub HasRoom : Images → Type 0
HasRoom x = (deque_len x.slots < deque_capacity x.slots) × (x.next + 1 < 2 ^ 64)
