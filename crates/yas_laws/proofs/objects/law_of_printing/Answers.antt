use Rattle.yas_laws.proofs.ReadBack.{is_read_back}
use Rattle.yas_laws.proofs.Images.{is_zero_elsewhere}
use Rattle.yas_laws.proofs.Apart.{emits_at_addresses, fits_its_size, has_its_bytes}
use Rattle.yas_laws.proofs.objects.law_of_printing.Goals as goal

pub returns-clause-same_image : goal.returns-clause-same_image
returns-clause-same_image c = is_read_back

pub returns-clause-own_size : goal.returns-clause-own_size
returns-clause-own_size c = fits_its_size

pub returns-clause-bytes : goal.returns-clause-bytes
returns-clause-bytes c = has_its_bytes

pub returns-clause-zeros : goal.returns-clause-zeros
returns-clause-zeros c = is_zero_elsewhere

pub returns-clause-addressed : goal.returns-clause-addressed
returns-clause-addressed c = emits_at_addresses
