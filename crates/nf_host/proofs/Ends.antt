-- What a child in memory does, from what its script's path says.
use Rattle.std.proofs.Common.{◌≡◌, ℕ, List, Option, codes, sym, ap, ◌∙◌}
use Rattle.nf_host.specs.Children.{Deeds, child_by, child_at}
use Rattle.nf_host.specs.Files.{Files}
use Rattle.nf_host.specs.Folders.{path_in}
use Rattle.nf_host.specs.declared.children.Child.{Child}

pub child_is : (deeds : Deeds) (f : Files) (dir path : List ℕ) (o : Option Child) → path ≡ path_in dir (codes ".command.sh") → o ≡ child_by deeds (f path) → child_at deeds f dir ≡ o
child_is deeds f dir path o e h = ap (λ p. child_by deeds (f p)) (sym e) ∙ sym h
