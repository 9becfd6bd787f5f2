mod Given
mod AsBox
mod Ended
mod Stopped
mod SelectedRows
mod Filtered
mod Printed
