-- What is kept of the takes in flight, after one more, after a change of one, and after one less.
use Rattle.std.proofs.Common.{◌≡◌, ℕ, zero, suc, ◌+◌, ◌-◌, ◌<◌, ◌≤◌, List, [], ◌∷◌, ◌++◌, length, get_or, set, Bool, true, false, refl, ap, sym, ◌∙◌, subst, arith, inl, inr, length-set, length-append, Vec, Global}
use Rattle.std.specs.Prelude.{◌==◌, count_by, option_map}
use Rattle.std.specs.declared.option.Option.{Option}
use Rattle.std.specs.declared.option.Option.TheVariants.{None, Some}
use Rattle.std.proofs.lemmas.Bool.{cases_eq, cases_lt}
use Rattle.std.proofs.lemmas.Bool.Decides.{nat_tests}
use Rattle.std.proofs.lemmas.List.{get_or-set_same, get_or-set_other, get_or_past, get_or_append_left, get_or_push, get_or_default}
use Rattle.std.proofs.lemmas.List.Sums.{count_by-le-length}
use Rattle.nf_machine.proofs.Tally.{passes, one_if, count_is_passes, tally-append}
use Rattle.nf_machine.specs.State.{Ticket}
use Rattle.nf_machine.specs.Step.{ticket_at, without, with_ticket}
use Rattle.nf_machine.proofs.Tickets.{found_tally}
use Rattle.nf_flight.specs.Flights.{flight_of, flight_at, nodes_of, IsFlights}
use Rattle.nf_flight.specs.declared.flight.Flight.{Flight}
use Rattle.nf_flight.specs.declared.flights.Flights.{Flights}
use Rattle.nf_flight.proofs.Tickets.{or_ticket, or_none, if_number, number_yes, number_no, found_number, at_with, at_without_other, at_without_same, zero_from_none, length_without, found_without}

none_kept : (o : Option Ticket) → option_map flight_of o ≡ None → o ≡ None
none_kept None h = refl
none_kept (Some k) h = absurd cc

some_kept : (o : Option Ticket) (f : Flight) → option_map flight_of o ≡ Some f → (k : Ticket) × (o ≡ Some k) × (flight_of k ≡ f)
some_kept None f h = absurd cc
some_kept (Some k) f h = (k, refl, cc)

module _ (next : ℕ) (tickets : List Ticket) (c : Flights) (h : IsFlights next tickets c) where
  -- numbers that no take has yet
  pub none_at : (t : ℕ) → next ≤ t → ticket_at t tickets ≡ None
  none_at zero l = absurd (let e = h.next_is in omega arith)
  none_at (suc u) l = none_kept (ticket_at (suc u) tickets) (sym (h.each (suc u)) ∙ get_or_past c.takes.items u None (let e = h.next_is in omega arith))

  none_at_zero : ticket_at 0 tickets ≡ None
  none_at_zero = none_kept (ticket_at 0 tickets) (sym (h.each 0))

  once_passes : (t : ℕ) → passes (λ k. k.number == t) tickets ≤ 1
  once_passes t = let e = count_is_passes (λ (k : Ticket). k.number == t) tickets in let o = h.once t in omega arith

  pub positive : (t : ℕ) (k : Ticket) → ticket_at t tickets ≡ Some k → 0 < t
  positive zero k e = absurd (let a : None ≡ Some k = sym none_at_zero ∙ e in cc)
  positive (suc u) k e = omega arith

  -- what is kept at the number of a ticket
  pub kept_at : (t : ℕ) (k : Ticket) → ticket_at t tickets ≡ Some k → get_or c.takes.items (t - 1) None ≡ Some (flight_of k)
  kept_at zero k e = absurd (let a : None ≡ Some k = sym none_at_zero ∙ e in cc)
  kept_at (suc u) k e = (let m : suc u - 1 ≡ u = omega arith in rw m (h.each (suc u) ∙ ap (option_map flight_of) e))

  pub below : (t : ℕ) (k : Ticket) → ticket_at t tickets ≡ Some k → t - 1 < length c.takes.items
  below t k e = elim (cases_lt (t - 1) (length c.takes.items)) [
    | inl l ↦ l
    | inr m ↦ absurd (let a : None ≡ Some (flight_of k) = sym (get_or_past c.takes.items (t - 1) None m) ∙ kept_at t k e in cc)
  ]

  -- at least one is in flight, and one of its node
  pub some_in_flight : (t : ℕ) (k : Ticket) → ticket_at t tickets ≡ Some k → 0 < c.count
  some_in_flight t k e = let a = length_without t tickets k e in let b = h.count_is in omega arith

  pub some_of_node : (t : ℕ) (k : Ticket) → ticket_at t tickets ≡ Some k → 0 < get_or c.of_nodes.items k.node 0
  some_of_node t k e =
      let a = found_tally (λ z. one_if (z.node == k.node)) t tickets k e in
      let b = count_is_passes (λ (z : Ticket). z.node == k.node) tickets in
      let d = h.nodes_are k.node (h.within t k e) in
      let f : one_if (k.node == k.node) ≡ 1 = (let g : (k.node == k.node) ≡ true = grind (arith, nat_tests) in rw g refl) in
      omega arith

  -- the flight that the code read at the number of a ticket
  pub read : (t : ℕ) (k : Ticket) (o : Option Flight) (f : Flight) → ticket_at t tickets ≡ Some k → o ≡ get_or c.takes.items (t - 1) o → o ≡ Some f → f ≡ flight_of k
  read t k o f e was is = (let a : Some f ≡ Some (flight_of k) = sym is ∙ was ∙ get_or_default c.takes.items (t - 1) o None (below t k e) ∙ kept_at t k e in cc)

  -- no node has more in flight than numbers were given
  pub few_of_node : (node : ℕ) → node < nodes_of c → get_or c.of_nodes.items node 0 < next
  few_of_node node l = let a = h.nodes_are node l in let b = count_by-le-length (λ (k : Ticket). k.node == node) tickets in let d = h.few in let e = h.next_is in omega arith

  pub few_in_flight : c.count < next
  few_in_flight = let a = h.count_is in let d = h.few in let e = h.next_is in omega arith

-- nothing changes
pub unchanged : (next : ℕ) (tickets : List Ticket) (c d : Flights) → IsFlights next tickets c → d.takes.items ≡ c.takes.items → d.of_nodes ≡ c.of_nodes → d.count ≡ c.count → IsFlights next tickets d
unchanged next tickets c d h takes nodes count = record {
  next_is = ap (λ (xs : List (Option Flight)). suc (length xs)) takes ∙ h.next_is;
  each = same_each;
  nodes_are = λ i l. (let m : i < nodes_of c = (let e = ap (λ (v : Vec ℕ Global). length v.items) nodes in omega arith) in ap (λ (v : Vec ℕ Global). get_or v.items i 0) nodes ∙ h.nodes_are i m);
  within = λ t k e. (let l = h.within t k e in let m = ap (λ (v : Vec ℕ Global). length v.items) nodes in omega arith);
  count_is = count ∙ h.count_is;
  few = (let e = ap length takes in let l = h.few in omega arith);
  once = h.once;
}
  where
    same_each : (t : ℕ) → flight_at d t ≡ option_map flight_of (ticket_at t tickets)
    same_each zero = h.each 0
    same_each (suc u) = ap (λ xs. get_or xs u None) takes ∙ h.each (suc u)

-- ---- one take more

module _ (next node : ℕ) (tickets : List Ticket) (k : Ticket) (c d : Flights) (h : IsFlights next tickets c) (number : k.number ≡ next) (of : k.node ≡ node) (told : k.told ≡ []) (started : k.started ≡ false)
    (within : node < nodes_of c) (takes : d.takes.items ≡ c.takes.items ++ Some (record { node = node; attempt = 1; is_started = false }) ∷ []) (nodes : d.of_nodes.items ≡ set c.of_nodes.items node (get_or c.of_nodes.items node 0 + 1))
    (count : d.count ≡ c.count + 1) where
  abbrev all : List Ticket
  all = with_ticket k tickets

  first : Flight
  first = record { node = node; attempt = 1; is_started = false }

  is_first : flight_of k ≡ record { node = node; attempt = 1; is_started = false }
  is_first = λ i. record { node = of i; attempt = suc (length (told i)); is_started = started i }

  each_more : (t : ℕ) → flight_at d t ≡ option_map flight_of (ticket_at t all)
  each_more zero = sym (ap (option_map flight_of) (at_with 0 tickets k ∙ (λ i. or_ticket (none_at_zero next tickets c h i) (number_no 0 k (λ e. let f = h.next_is in omega arith) i))))
  each_more (suc u) = ap (λ xs. get_or xs u None) takes ∙ elim (cases_lt u (length c.takes.items)) [
    | inl l ↦ get_or_append_left c.takes.items _ None u l ∙ h.each (suc u) ∙ ap (option_map flight_of) (sym (at_with (suc u) tickets k ∙ ap (or_ticket (ticket_at (suc u) tickets)) (number_no (suc u) k (λ e. let f = h.next_is in omega arith)) ∙ or_none (ticket_at (suc u) tickets)))
    | inr m ↦ elim (cases_eq u (length c.takes.items)) [
      | inl e ↦ get_or_push c.takes.items _ None u (sym e) ∙ sym (ap (option_map flight_of) (at_with (suc u) tickets k ∙ (λ i. or_ticket (none_at next tickets c h (suc u) (let f = h.next_is in omega arith) i) (number_yes (suc u) k (let f = h.next_is in omega arith) i))) ∙ ap Some is_first)
      | inr n ↦ get_or_past (c.takes.items ++ Some (record { node = node; attempt = 1; is_started = false }) ∷ []) u None (let f = length-append c.takes.items (Some (record { node = node; attempt = 1; is_started = false }) ∷ []) in omega arith)
          ∙ sym (ap (option_map flight_of) (at_with (suc u) tickets k ∙ (λ i. or_ticket (none_at next tickets c h (suc u) (let f = h.next_is in omega arith) i) (number_no (suc u) k (λ e. let f = h.next_is in omega arith) i))))
    ]
  ]

  len_nodes : nodes_of d ≡ nodes_of c
  len_nodes = ap length nodes ∙ length-set c.of_nodes.items node (get_or c.of_nodes.items node 0 + 1)

  count_more : (p : Ticket → Bool) → count_by p all ≡ count_by p tickets + one_if (p k)
  count_more p = (let a = count_is_passes p all in let b = count_is_passes p tickets in let e = tally-append (λ z. one_if (p z)) tickets (k ∷ []) in omega arith)

  pub added : IsFlights (suc next) all d
  added = record {
    next_is = (let a = ap length takes in let b = length-append c.takes.items (Some (record { node = node; attempt = 1; is_started = false }) ∷ []) in let e = h.next_is in omega arith);
    each = each_more;
    nodes_are = λ i l. (let m : i < nodes_of c = (let e = len_nodes in omega arith) in ap (λ xs. get_or xs i 0) nodes ∙ elim (cases_eq i node) [
      | inl e ↦ (let t : one_if (k.node == i) ≡ 1 = (let g : (k.node == i) ≡ true = grind (arith, nat_tests) in rw g refl) in
          let a : get_or (set c.of_nodes.items node (get_or c.of_nodes.items node 0 + 1)) i 0 ≡ get_or c.of_nodes.items node 0 + 1 = subst (λ j. get_or (set c.of_nodes.items node (get_or c.of_nodes.items node 0 + 1)) j 0 ≡ get_or c.of_nodes.items node 0 + 1) (sym e) (get_or-set_same c.of_nodes.items node (get_or c.of_nodes.items node 0 + 1) 0 within) in
          let b : get_or c.of_nodes.items node 0 ≡ count_by (λ z. z.node == i) tickets = subst (λ j. get_or c.of_nodes.items j 0 ≡ count_by (λ z. z.node == i) tickets) e (h.nodes_are i m) in
          let f = count_more (λ z. z.node == i) in omega arith)
      | inr n ↦ (let t : one_if (k.node == i) ≡ 0 = (let g : (k.node == i) ≡ false = grind (arith, nat_tests) in rw g refl) in
          let a = get_or-set_other c.of_nodes.items node i (get_or c.of_nodes.items node 0 + 1) 0 n in let b = h.nodes_are i m in let f = count_more (λ z. z.node == i) in omega arith)
    ]);
    within = λ t z e. (let a : or_ticket (ticket_at t tickets) (if_number t k) ≡ Some z = sym (at_with t tickets k) ∙ e in let l = len_nodes in within_or t (ticket_at t tickets) z refl a);
    count_is = (let a = length-append tickets (k ∷ []) in let e = h.count_is in omega arith);
    few = (let a = length-append tickets (k ∷ []) in let b = ap length takes in let f = length-append c.takes.items (Some (record { node = node; attempt = 1; is_started = false }) ∷ []) in let e = h.few in omega arith);
    once = λ t. (let f = count_more (λ z. z.number == t) in elim (cases_eq k.number t) [
      | inl e ↦ (let a = zero_from_none t tickets (none_at next tickets c h t (omega arith)) in let b = count_is_passes (λ (z : Ticket). z.number == t) tickets in let g : one_if (k.number == t) ≡ 1 = (let q : (k.number == t) ≡ true = grind (arith, nat_tests) in rw q refl) in omega arith)
      | inr n ↦ (let g : one_if (k.number == t) ≡ 0 = (let q : (k.number == t) ≡ false = grind (arith, nat_tests) in rw q refl) in let o = h.once t in omega arith)
    ]);
  }
    where
      by_number : (t : ℕ) (z : Ticket) → if_number t k ≡ Some z → z.node < nodes_of d
      by_number t z e = elim (cases_eq k.number t) [
        | inl q ↦ (let a : Some k ≡ Some z = sym (number_yes t k q) ∙ e in let b : k ≡ z = cc in subst (λ (y : Ticket). y.node < nodes_of d) b (let l = len_nodes in omega arith))
        | inr n ↦ absurd (let a : None ≡ Some z = sym (number_no t k n) ∙ e in cc)
      ]

      within_or : (t : ℕ) (o : Option Ticket) (z : Ticket) → ticket_at t tickets ≡ o → or_ticket o (if_number t k) ≡ Some z → z.node < nodes_of d
      within_or t None z q e = by_number t z e
      within_or t (Some y) z q e = (let b : y ≡ z = cc in let l = h.within t z (q ∙ ap Some b) in let m = len_nodes in omega arith)

-- ---- one ticket leaves, and may come back with another start or another attempt

module _ (next t : ℕ) (tickets : List Ticket) (k : Ticket) (c : Flights) (h : IsFlights next tickets c) (there : ticket_at t tickets ≡ Some k) where
  one : passes (λ z. z.number == t) tickets ≤ 1
  one = once_passes next tickets c h t

  is_number : k.number ≡ t
  is_number = found_number t tickets k there

  place_is : (u : ℕ) → t ≡ suc u → t - 1 ≡ u
  place_is u e = omega arith

  gone : (u : ℕ) → u ≡ t → ticket_at u (without t tickets) ≡ None
  gone u e = subst (λ m. ticket_at m (without t tickets) ≡ None) (sym e) (at_without_same t tickets one)

  count_less : (p : Ticket → Bool) → count_by p tickets ≡ one_if (p k) + count_by p (without t tickets)
  count_less p = (let a = count_is_passes p tickets in let b = count_is_passes p (without t tickets) in let e = found_tally (λ z. one_if (p z)) t tickets k there in omega arith)

  module _ (d : Flights) (z : Ticket) (same_number : z.number ≡ k.number) (same_node : z.node ≡ k.node) (takes : d.takes.items ≡ set c.takes.items (t - 1) (Some (flight_of z)))
      (nodes : d.of_nodes ≡ c.of_nodes) (count : d.count ≡ c.count) where
    abbrev back : List Ticket
    back = with_ticket z (without t tickets)

    each_back : (u : ℕ) → flight_at d u ≡ option_map flight_of (ticket_at u back)
    each_back zero = sym (ap (option_map flight_of) (at_with 0 (without t tickets) z ∙ (λ i. or_ticket ((at_without_other t 0 tickets (λ e. let p = positive next tickets c h t k there in omega arith) ∙ none_at_zero next tickets c h) i) (number_no 0 z (λ e. let p = positive next tickets c h t k there in let q = is_number in omega arith) i))))
    each_back (suc u) = ap (λ xs. get_or xs u None) takes ∙ elim (cases_eq (suc u) t) [
      | inl e ↦ (let m : u ≡ t - 1 = omega arith in
          subst (λ j. get_or (set c.takes.items (t - 1) (Some (flight_of z))) j None ≡ Some (flight_of z)) (sym m) (get_or-set_same c.takes.items (t - 1) (Some (flight_of z)) None (below next tickets c h t k there))
          ∙ sym (ap (option_map flight_of) (at_with (suc u) (without t tickets) z ∙ (λ i. or_ticket (gone (suc u) e i) (number_yes (suc u) z (let q = is_number in omega arith) i)))))
      | inr n ↦ get_or-set_other c.takes.items (t - 1) u (Some (flight_of z)) None (λ e. n (let p = positive next tickets c h t k there in omega arith))
          ∙ h.each (suc u) ∙ sym (ap (option_map flight_of) (at_with (suc u) (without t tickets) z ∙ ap (or_ticket (ticket_at (suc u) (without t tickets))) (number_no (suc u) z (λ e. n (let q = is_number in omega arith)))
          ∙ or_none (ticket_at (suc u) (without t tickets)) ∙ at_without_other t (suc u) tickets n))
    ]

    count_back : (p : Ticket → Bool) → p z ≡ p k → count_by p back ≡ count_by p tickets
    count_back p e = (let a = count_is_passes p back in let b = count_is_passes p (without t tickets) in let f = tally-append (λ y. one_if (p y)) (without t tickets) (z ∷ []) in let g = count_less p in let q = ap one_if e in omega arith)

    same_nodes : nodes_of d ≡ nodes_of c
    same_nodes = ap (λ v. length v.items) nodes

    len_takes : length d.takes.items ≡ length c.takes.items
    len_takes = ap length takes ∙ length-set c.takes.items (t - 1) (Some (flight_of z))

    pub changed : IsFlights next back d
    changed = record {
      next_is = ap suc len_takes ∙ h.next_is;
      each = each_back;
      nodes_are = λ i l. (let m : i < nodes_of c = (let e = same_nodes in omega arith) in ap (λ v. get_or v.items i 0) nodes ∙ h.nodes_are i m ∙ sym (count_back (λ y. y.node == i) (ap (λ (n : ℕ). n == i) same_node)));
      within = λ u y e. (let l = same_nodes in within_back u (ticket_at u (without t tickets)) y refl (sym (at_with u (without t tickets) z) ∙ e));
      count_is = count ∙ h.count_is ∙ sym len_back;
      few = (let a = len_back in let b = len_takes in let e = h.few in omega arith);
      once = λ u. (let a = count_back (λ y. y.number == u) (ap (λ (n : ℕ). n == u) same_number) in let o = h.once u in omega arith);
    }
      where
        len_back : length (with_ticket z (without t tickets)) ≡ length tickets
        len_back = (let a = length-append (without t tickets) (z ∷ []) in let b = length_without t tickets k there in omega arith)

        by_back : (u : ℕ) (y : Ticket) → if_number u z ≡ Some y → y.node < nodes_of d
        by_back u y e = elim (cases_eq z.number u) [
          | inl q ↦ (let a : Some z ≡ Some y = sym (number_yes u z q) ∙ e in let b : z ≡ y = cc in subst (λ (x : Ticket). x.node < nodes_of d) b (let l = h.within t k there in let m = same_nodes in let n = same_node in omega arith))
          | inr n ↦ absurd (let a : None ≡ Some y = sym (number_no u z n) ∙ e in cc)
        ]

        within_back : (u : ℕ) (o : Option Ticket) (y : Ticket) → ticket_at u (without t tickets) ≡ o → or_ticket o (if_number u z) ≡ Some y → y.node < nodes_of d
        within_back u None y q e = by_back u y e
        within_back u (Some x) y q e = (let b : x ≡ y = cc in let l = h.within u y (found_without t u tickets y one (q ∙ ap Some b)) in let m = same_nodes in omega arith)

  module _ (d : Flights) (takes : d.takes.items ≡ set c.takes.items (t - 1) None) (nodes : d.of_nodes.items ≡ set c.of_nodes.items k.node (get_or c.of_nodes.items k.node 0 - 1)) (count : d.count ≡ c.count - 1) where
    each_left : (u : ℕ) → flight_at d u ≡ option_map flight_of (ticket_at u (without t tickets))
    each_left zero = sym (ap (option_map flight_of) (at_without_other t 0 tickets (λ e. let p = positive next tickets c h t k there in omega arith) ∙ none_at_zero next tickets c h))
    each_left (suc u) = ap (λ xs. get_or xs u None) takes ∙ elim (cases_eq (suc u) t) [
      | inl e ↦ (let m : u ≡ t - 1 = omega arith in
          subst (λ j. get_or (set c.takes.items (t - 1) None) j None ≡ None) (sym m) (get_or-set_same c.takes.items (t - 1) None None (below next tickets c h t k there)) ∙ sym (ap (option_map flight_of) (gone (suc u) e)))
      | inr n ↦ get_or-set_other c.takes.items (t - 1) u None None (λ e. n (let p = positive next tickets c h t k there in omega arith)) ∙ h.each (suc u) ∙ sym (ap (option_map flight_of) (at_without_other t (suc u) tickets n))
    ]

    len_left : nodes_of d ≡ nodes_of c
    len_left = ap length nodes ∙ length-set c.of_nodes.items k.node (get_or c.of_nodes.items k.node 0 - 1)

    takes_left : length d.takes.items ≡ length c.takes.items
    takes_left = ap length takes ∙ length-set c.takes.items (t - 1) None

    pub left : IsFlights next (without t tickets) d
    left = record {
      next_is = ap suc takes_left ∙ h.next_is;
      each = each_left;
      nodes_are = λ i l. (let m : i < nodes_of c = (let e = len_left in omega arith) in ap (λ xs. get_or xs i 0) nodes ∙ elim (cases_eq i k.node) [
        | inl e ↦ (let one_here : one_if (k.node == i) ≡ 1 = (let g : (k.node == i) ≡ true = grind (arith, nat_tests) in rw g refl) in
            let a : get_or (set c.of_nodes.items k.node (get_or c.of_nodes.items k.node 0 - 1)) i 0 ≡ get_or c.of_nodes.items k.node 0 - 1 = subst (λ j. get_or (set c.of_nodes.items k.node (get_or c.of_nodes.items k.node 0 - 1)) j 0 ≡ get_or c.of_nodes.items k.node 0 - 1) (sym e) (get_or-set_same c.of_nodes.items k.node (get_or c.of_nodes.items k.node 0 - 1) 0 (h.within t k there)) in
            let b : get_or c.of_nodes.items k.node 0 ≡ count_by (λ y. y.node == i) tickets = subst (λ j. get_or c.of_nodes.items j 0 ≡ count_by (λ y. y.node == i) tickets) e (h.nodes_are i m) in
            let f = count_less (λ y. y.node == i) in omega arith)
        | inr n ↦ (let none_here : one_if (k.node == i) ≡ 0 = (let g : (k.node == i) ≡ false = grind (arith, nat_tests) in rw g refl) in
            let a = get_or-set_other c.of_nodes.items k.node i (get_or c.of_nodes.items k.node 0 - 1) 0 n in let b = h.nodes_are i m in let f = count_less (λ y. y.node == i) in omega arith)
      ]);
      within = λ u y e. (let l = h.within u y (found_without t u tickets y one e) in let m = len_left in omega arith);
      count_is = (let a = length_without t tickets k there in let e = h.count_is in omega arith);
      few = (let a = length_without t tickets k there in let b = takes_left in let e = h.few in omega arith);
      once = λ u. (let a = count_less (λ y. y.number == u) in let o = h.once u in omega arith);
    }

pub begun : (c : Flights) → c.takes.items ≡ [] → ((i : ℕ) → get_or c.of_nodes.items i 0 ≡ 0) → c.count ≡ 0 → IsFlights 1 [] c
begun c takes nodes count = record {
  next_is = ap (λ (xs : List (Option Flight)). suc (length xs)) takes;
  each = λ t. none_kept_at t;
  nodes_are = λ i l. nodes i;
  within = λ t k e. absurd cc;
  count_is = count;
  few = omega arith;
  once = λ t. omega arith;
}
  where
    none_kept_at : (t : ℕ) → flight_at c t ≡ None
    none_kept_at zero = refl
    none_kept_at (suc u) = ap (λ xs. get_or xs u None) takes
