use Rattle.yas_laws.proofs.ImageLemmas.{image_has_lines, image_is_zero_elsewhere}
use Rattle.yas_laws.proofs.sources.law_of_images.Goals as goal

pub returns : goal.returns
returns c = record { lines = image_has_lines; zeros = image_is_zero_elsewhere }
