-- Nothing is wrong first exactly where the network and the certificate fit the nest.
--
-- `first` is the first of five answers, each by a function of its own, so it is none exactly where all five are. Each
-- pair of laws below is one of them, both ways. They lean on each other in the order of `first`: that the schedule is a
-- run of the machine is only said of a wired network, which the shape has made sure of, and that it names what is
-- wanted by last writers, which what the certificate says is where the sources are usable. A new reason is a sixth
-- pair.
use Rattle.std.proofs.Common.{◌≡◌, None, ap, ◌∙◌}
use Rattle.std.specs.Option.{option_or}
use Rattle.sanlp.specs.declared.nest.Nest.{Nest}
use Rattle.source_tree.specs.declared.cert.Cert.{Cert}
use Rattle.net_core.specs.declared.network.Network.{Network}
use Rattle.net_core.specs.Machine.{net_of}
use Rattle.net_core.specs.Sound.{NamesLastWriters}
use Rattle.net_checker.specs.Shapes.{shape_refusal}
use Rattle.net_checker.specs.Firings.{firing_refusal}
use Rattle.net_checker.specs.Sources.{source_refusal}
use Rattle.net_checker.specs.Entries.{schedule_refusal}
use Rattle.net_checker.specs.Classes.{class_refusal}
use Rattle.net_checker.specs.Fits.{Fits, first}
use Rattle.net_checker.proofs.Choices.{or_none}
use Rattle.net_checker.proofs.FitsShape.{none_fits, fits_no_shape, fits_no_firing}
use Rattle.net_checker.proofs.FitsNames.{wanted_are_last, last_are_wanted}
use Rattle.net_checker.proofs.FitsSchedule.{none_ends, ends_none}
use Rattle.net_checker.proofs.FitsClasses.{none_classes, classes_none}
use Rattle.net_checker.proofs.Usable.{none_are_usable, usable_are_none}

pub first_fits : (n : Nest) (network : Network) (cert : Cert) → first n network cert ≡ None → Fits n network cert
first_fits n network cert h =
    let judged = option_or (schedule_refusal n network cert.schedule) (class_refusal network) in
    let later = option_or (source_refusal n cert) judged in
    let shape = or_none (shape_refusal n network cert) (option_or (firing_refusal n network) later) h in
    let firing = or_none (firing_refusal n network) later shape.1 in
    let source = or_none (source_refusal n cert) judged firing.1 in
    let rest = or_none (schedule_refusal n network cert.schedule) (class_refusal network) source.1 in
    let fits = none_fits n network cert shape.0 firing.0 in
    let trees = none_are_usable n cert source.0 in
    let ends = none_ends n network cert.schedule fits.0.shaped.wired rest.0 in
    record {
      shape = fits.0;
      sources = fits.1;
      trees = trees;
      ends = ends.0;
      names = last_are_wanted n network cert fits.0 trees fits.1 ends.1;
      classes = none_classes network rest.1;
    }

-- what fits names the last writers
pub fits_last : (n : Nest) (network : Network) (cert : Cert) → Fits n network cert → NamesLastWriters n (net_of network)
fits_last n network cert fits = wanted_are_last n network cert fits.shape fits.trees fits.names

pub fits_first : (n : Nest) (network : Network) (cert : Cert) → Fits n network cert → first n network cert ≡ None
fits_first n network cert fits =
    let judged = option_or (schedule_refusal n network cert.schedule) (class_refusal network) in
    let later = option_or (source_refusal n cert) judged in
    ap (λ o. option_or o (option_or (firing_refusal n network) later))
    (fits_no_shape n network cert fits.shape fits.sources)
    ∙ ap (λ o. option_or o later) (fits_no_firing n network fits.shape)
    ∙ ap (λ o. option_or o judged) (usable_are_none n cert fits.trees)
    ∙ ap (λ o. option_or o (class_refusal network))
    (ends_none n network cert.schedule fits.shape.shaped.wired fits.ends (fits_last n network cert fits))
    ∙ classes_none network fits.classes
