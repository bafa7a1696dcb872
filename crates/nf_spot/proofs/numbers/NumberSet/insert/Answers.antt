use Rattle.std.proofs.Common.{◌≡◌, ◌≤◌, length, get_or, false, ap, sym, ◌∙◌, arith, rules}
use Rattle.std.proofs.lemmas.List.{with_items_is}
use Rattle.nf_spot.specs.Numbers.{has}
use Rattle.nf_spot.proofs.Order.{not_in, inserted_in}
use Rattle.nf_spot.proofs.numbers.NumberSet.insert.Goals as goal

pub overflow_add-self : goal.overflow_add-self
overflow_add-self c =
    let s = c.args.self.now in
    let out : has s c.args.number ≡ false = sym c.contains.ensures ∙ c.if-contains.false in
    let above : s.count ≤ get_or s.places.items c.args.number 0 = not_in (length s.order.items) c.args.number (get_or s.places.items c.args.number 0) s.count c.requires out in
    let below = s.ordered.place_below c.args.number c.requires in
    let small = s.small in
    omega arith

pub returns-clause-set : goal.returns-clause-set
returns-clause-set c x =
    let s = c.args.self.now in
    let out : has s c.args.number ≡ false = sym c.contains.ensures ∙ c.if-contains.false in
    let len_order : length c.exchange.new.order ≡ s.order.len = omega arith in
    let len_places : length c.exchange.new.places ≡ s.places.len = omega arith in
    let order = with_items_is s.order c.exchange.new.order len_order in
    let places = with_items_is s.places c.exchange.new.places len_places in
    inserted_in s.order.items s.places.items _ _ _ _ c.args.number s.count s.ordered c.requires out (ap length order ∙ c.exchange.ensures.len) (λ y l. ap (λ xs. get_or xs y 0) places ∙ c.exchange.ensures.moved y l) (search rules) (search rules) x
