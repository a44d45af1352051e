-- Orders as the code holds them.
use Rattle.text.specs.Tables.{held}
use Rattle.map.specs.Orders.{Order}
use Rattle.map.specs.Orders.Order.{place, move, take}
use Rattle.map.specs.declared.order.Order.{Order as Written}
use Rattle.map.specs.declared.order.Order.TheVariants.{Place, Move, Take}

abbrev pub order_seen : Written → Order
order_seen (Place p r c) = place (held p) r c
order_seen (Move p r c) = move (held p) r c
order_seen (Take p) = take (held p)
