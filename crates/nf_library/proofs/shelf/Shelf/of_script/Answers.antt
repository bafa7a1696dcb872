use Rattle.std.proofs.Common.{◌∙◌, map}
use Rattle.nf_ast.specs.Tops.{view_top}
use Rattle.nf_ast.specs.View.{trees}
use Rattle.nf_library.specs.Patterns.{pattern_texts}
use Rattle.nf_library.specs.Shelves.{IsShelf}
use Rattle.nf_library.proofs.Sets.{own_texts}
use Rattle.nf_library.proofs.Shelved.{is_split, nothing_stands}
use Rattle.nf_library.proofs.shelf.Shelf.of_script.Goals as goal

pub returns-clause-functions : goal.returns-clause-functions
returns-clause-functions c = c.in_ok-add_tops.ensures.grows.functions ∙ c.in_ok-add_in_order.ensures.functions

pub returns-clause-built : goal.returns-clause-built
returns-clause-built c =
    let stands : IsShelf c.add_tops.new.shelf = c.in_ok-add_tops.ensures.grows.shelf (nothing_stands _ c.empty-shelf.ensures.built c.empty-shelf.ensures.large (c.in_ok-add_in_order.ensures.patterns ∙ c.empty-shelf.ensures.patterns)) in
    stands.texts

pub returns-clause-large : goal.returns-clause-large
returns-clause-large c = own_texts c.add_tops.new.shelf.texts.large.keys

pub returns-clause-split : goal.returns-clause-split
returns-clause-split c =
    let stands : IsShelf c.add_tops.new.shelf = c.in_ok-add_tops.ensures.grows.shelf (nothing_stands _ c.empty-shelf.ensures.built c.empty-shelf.ensures.large (c.in_ok-add_in_order.ensures.patterns ∙ c.empty-shelf.ensures.patterns)) in
    is_split (pattern_texts (trees (map view_top c.args.tops.now))) c.add_tops.new.shelf stands c.in_ok-add_tops.ensures.has
