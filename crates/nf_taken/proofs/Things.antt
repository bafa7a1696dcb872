-- One thing more that was taken.
use Rattle.std.proofs.Common.{◌≡◌, ◌∙◌, ℕ, List, [], ◌∷◌, ◌++◌, length, Option, Some, None, refl, sym, ap, subst}
use Rattle.std.specs.Option.{option_map}
use Rattle.std.specs.Global.{Vec}
use Rattle.nf_value.specs.Plain.{Plain}
use Rattle.nf_value.specs.View.{plain_of}
use Rattle.nf_value.specs.declared.value.Value.{Value}
use Rattle.nf_bag.specs.declared.options.OpOpts.{OpOpts}
use Rattle.nf_bag.specs.declared.options.Total.{Total}
use Rattle.nf_graph.specs.declared.port.Port.{Port}
use Rattle.nf_graph.specs.Meaning.{Bags}
use Rattle.nf_eval.specs.Evaluation as eval
use Rattle.nf_eval.specs.declared.closures.Closure.{Closure}
use Rattle.nf_tasks.specs.Memory.{Program}
use Rattle.nf_bodies.specs.Means.{GivesAs}
use Rattle.nf_meaning.specs.Closures.{labels_in}
use Rattle.nf_meaning.specs.Nodes.{PortsStand}
use Rattle.nf_meaning.specs.Options.{no_options}
use Rattle.nf_meaning.specs.Stands.{StandsFor}
use Rattle.nf_meaning.specs.Taken as meaning
use Rattle.nf_meaning.specs.Things.{Channel}
use Rattle.nf_around.specs.Labels.{AreLabels}
use Rattle.nf_taken.specs.declared.taken.Closing.TheVariants as closing
use Rattle.nf_taken.specs.declared.taken.Taken.{Taken}
use Rattle.nf_taken.specs.Taken.{IsClosing, IsTaken, with_channel, with_closure, with_labels, with_literal, with_options, with_outs, with_pattern, with_start, with_total, with_word}

one_more : (bags : Bags) (ps : List Port) (cs : List Channel) (p : Port) (c : Channel) → PortsStand bags ps cs → StandsFor bags p c → PortsStand bags (ps ++ p ∷ []) (cs ++ c ∷ [])
one_more bags [] [] p c h k = (k, tt)
one_more bags [] (d ∷ cs) p c h k = absurd h
one_more bags (q ∷ ps) [] p c h k = absurd h
one_more bags (q ∷ ps) (d ∷ cs) p c h k = (h.0, one_more bags ps cs p c h.1 k)

-- nothing was taken yet
pub nothing_is : (n : Program) (bags : Bags) (x : Taken) → x.ports.items ≡ [] → x.literal ≡ None → x.pattern ≡ None → x.start ≡ None → x.closing ≡ closing.Nothing → x.labels.items ≡ [] → x.word ≡ []
    → x.opts ≡ no_options → IsTaken n bags x meaning.nothing_taken
nothing_is n bags x ports literal pattern start closing labels word opts = record {
  channels = subst (λ ps. PortsStand bags ps []) (sym ports) tt;
  literal = ap (option_map plain_of) literal;
  pattern = pattern;
  start = ap (option_map plain_of) start;
  closing = subst (λ k. IsClosing n k None) (sym closing) refl;
  labels = labels;
  word = word;
  options = λ i. with_outs (length (labels i)) (opts i);
}

module _ (n : Program) (bags : Bags) (x : Taken) (t : meaning.Taken) (h : IsTaken n bags x t) where
  pub a_channel : (ports : Vec Port) (p : Port) (c : Channel) → ports.items ≡ x.ports.items ++ p ∷ [] → StandsFor bags p c → IsTaken n bags (record x { ports = ports }) (with_channel c t)
  a_channel ports p c is k = record {
    channels = subst (λ ps. PortsStand bags ps (t.channels ++ c ∷ [])) (sym is) (one_more bags x.ports.items t.channels p c h.channels k);
    literal = h.literal;
    pattern = h.pattern;
    start = h.start;
    closing = h.closing;
    labels = h.labels;
    word = h.word;
    options = h.options;
  }

  pub a_start : (v : Value) (w : Plain) → plain_of v ≡ w → IsTaken n bags (record x { start = Some v }) (with_start w t)
  a_start v w is = record {
    channels = h.channels;
    literal = h.literal;
    pattern = h.pattern;
    start = ap (λ y. Some y) is;
    closing = h.closing;
    labels = h.labels;
    word = h.word;
    options = h.options;
  }

  pub a_literal : (v : Value) → IsTaken n bags (record x { literal = Some v }) (with_literal (plain_of v) t)
  a_literal v = record {
    channels = h.channels;
    literal = refl;
    pattern = h.pattern;
    start = h.start;
    closing = h.closing;
    labels = h.labels;
    word = h.word;
    options = h.options;
  }

  pub a_pattern : (re s : List ℕ) → re ≡ s → IsTaken n bags (record x { pattern = Some re }) (with_pattern s t)
  a_pattern re s is = record {
    channels = h.channels;
    literal = h.literal;
    pattern = ap (λ y. Some y) is;
    start = h.start;
    closing = h.closing;
    labels = h.labels;
    word = h.word;
    options = h.options;
  }

  pub a_closure : (stored : Closure) (c : eval.Closing) → GivesAs n stored c → IsTaken n bags (record x { closing = closing.Whole stored }) (with_closure c t)
  a_closure stored c k = record {
    channels = h.channels;
    literal = h.literal;
    pattern = h.pattern;
    start = h.start;
    closing = record { closure = c; taken = refl; gives = k };
    labels = h.labels;
    word = h.word;
    options = h.options;
  }

  pub some_labels : (labels : Vec (List ℕ)) (stored : Vec Closure) (c : eval.Closing) → AreLabels n (labels, stored) c
      → IsTaken n bags (record x { labels = labels; closing = closing.ByLabels stored }) (with_labels c t)
  some_labels labels stored c k = record {
    channels = h.channels;
    literal = h.literal;
    pattern = h.pattern;
    start = h.start;
    closing = record { closure = c; taken = refl; first = k.first; more = k.more; has = k.has; give = k.give };
    labels = k.named;
    word = h.word;
    options = ap (λ ls. with_outs (length ls) x.opts) k.named ∙ ap (with_outs (length (labels_in c.body))) h.options;
  }

  pub a_word : (w v : List ℕ) → w ≡ v → IsTaken n bags (record x { word = w }) (with_word v t)
  a_word w v is = record {
    channels = h.channels;
    literal = h.literal;
    pattern = h.pattern;
    start = h.start;
    closing = h.closing;
    labels = h.labels;
    word = is;
    options = h.options;
  }

  pub a_total : (j k : Total) → j ≡ k → IsTaken n bags (record x { opts = record x.opts { total = j } }) (with_total k t)
  a_total j k is = record {
    channels = h.channels;
    literal = h.literal;
    pattern = h.pattern;
    start = h.start;
    closing = h.closing;
    labels = h.labels;
    word = h.word;
    options = λ i. record (h.options i) { total = is i };
  }

  pub an_option : (o : OpOpts) (q : OpOpts) → with_outs (length x.labels.items) o ≡ q → IsTaken n bags (record x { opts = o }) (with_options q t)
  an_option o q is = record {
    channels = h.channels;
    literal = h.literal;
    pattern = h.pattern;
    start = h.start;
    closing = h.closing;
    labels = h.labels;
    word = h.word;
    options = is;
  }
