-- What is known of a body after both arms of an `if` fits its names after either.
use Rattle.nf_kinds.specs.Scope as order
use Rattle.nf_kinds.specs.Scope.{after_both}
use Rattle.nf_meaning.specs.Walk.{Scope}
use Rattle.nf_agreed.specs.Fits.{SameNames, ScopeFits}
use Rattle.nf_agreed.proofs.Merging.{names_left, names_right, locals_left, locals_right}
use Rattle.nf_agreed.proofs.Unbound.{unbound_left, unbound_right}

pub scope_left : (a b : order.Scope) (x : Scope) → SameNames a.locals b.locals → ScopeFits a x → ScopeFits (after_both a b) x
scope_left a b x same h = record {
  locals = locals_left a.locals b.locals x.own same h.locals;
  names = names_left a.names b.names x.names h.names;
  unbound = unbound_left a.names b.names a.half_bound b.half_bound x.names h.unbound;
  calls = names_left a.calls b.calls x.calls h.calls;
}

pub scope_right : (a b : order.Scope) (x : Scope) → SameNames a.locals b.locals → ScopeFits b x → ScopeFits (after_both a b) x
scope_right a b x same h = record {
  locals = locals_right a.locals b.locals x.own same h.locals;
  names = names_right a.names b.names x.names h.names;
  unbound = unbound_right a.names b.names a.half_bound b.half_bound x.names h.unbound;
  calls = names_right a.calls b.calls x.calls h.calls;
}
