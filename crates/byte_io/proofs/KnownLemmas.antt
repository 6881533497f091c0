-- Known values of a device or an opener, from one step to the next.
use Rattle.std.specs.Prelude.{Option, None, Some}
use Rattle.byte_io.specs.Devices.{IfKnown}

-- one step after another
pub IfKnown-then : {T : Type 0} (a b c : Option T) (P Q R : T → T → Type 0) → IfKnown a b P → IfKnown b c Q → ((x y z : T) → P x y → Q y z → R x z) → IfKnown a c R
IfKnown-then None b c P Q R p q join = tt
IfKnown-then (Some x) None c P Q R p q join = absurd p
IfKnown-then (Some x) (Some y) None P Q R p q join = absurd q
IfKnown-then (Some x) (Some y) (Some z) P Q R p q join = join x y z p q

-- no step
pub IfKnown-none : {T : Type 0} (a : Option T) (R : T → T → Type 0) → ((x : T) → R x x) → IfKnown a a R
IfKnown-none None R here = tt
IfKnown-none (Some x) R here = here x

-- what one relation says, another does
pub IfKnown-weaker : {T : Type 0} (a b : Option T) (P R : T → T → Type 0) → IfKnown a b P → ((x y : T) → P x y → R x y) → IfKnown a b R
IfKnown-weaker None b P R p weaker = tt
IfKnown-weaker (Some x) None P R p weaker = absurd p
IfKnown-weaker (Some x) (Some y) P R p weaker = weaker x y p
