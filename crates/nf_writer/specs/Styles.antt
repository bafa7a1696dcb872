-- What contracts see of a `Style` and of a `Margin`.
use Rattle.nf_token.specs.declared.token.TextKind.{TextKind}
use Rattle.nf_token.specs.declared.token.TextKind.TheVariants.{Plain, Pattern, Template}
use Rattle.nf_writer.specs.declared.escapes.Style.{Style}
use Rattle.nf_writer.specs.declared.escapes.Style.TheVariants as s
use Rattle.nf_writer.specs.declared.layout.Margin.{Margin}
use Rattle.nf_writer.specs.declared.layout.Margin.TheVariants as g
use Rattle.nf_writer.specs.Lines.{Layout, lines, inline}

abbrev pub kind_of : Style → TextKind
kind_of (s.Plain k) = Plain k
kind_of s.Pattern = Pattern
kind_of (s.Template k) = Template k

abbrev pub layout_of : Margin → Layout
layout_of (g.Lines m) = lines m.items
layout_of g.Inline = inline
